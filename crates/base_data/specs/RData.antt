-- Record data: how it is read by type and length (RFC 1035, 3.2.1 and 3.3; RFC 3597, 3).
use Rattle.std.specs.Prelude.{ℕ, Bool, true, false, ◌+◌, ◌==◌, List, [], if◌then◌else◌, Ok, Err}
use Rattle.base.specs.reading.Reading.{Read}
use Rattle.base.specs.declared.error.decode_error.DecodeError.TheVariants as faults
use Rattle.base.specs.declared.record_type.RecordType.{RecordType}
use Rattle.base_data.specs.InPlace.{data_fault, reason_of}
use Rattle.base_data.specs.Kinds.{kind_at}
use Rattle.base_data.specs.declared.rdata.RData.{RData}
use Rattle.base_data.specs.declared.rdata.RData.TheVariants as kinds

-- whether data is empty
abbrev pub is_empty_data : RData → Bool
is_empty_data (kinds.Update0 type) = true
is_empty_data _ = false

-- whether data is a transaction signature (RFC 8945, 4.2)
abbrev pub is_signature_data : RData → Bool
is_signature_data (kinds.TSIG x) = true
is_signature_data _ = false

-- the bytes of a signature
abbrev pub signature_in : RData → List ℕ
signature_in (kinds.TSIG x) = x
signature_in _ = []

-- what is read, if it ends here
abbrev pub filling : RecordType → ℕ → Read RData → Read RData
filling type end (Ok r) = if r.1 == end then Ok r else Err (faults.BadData type)
filling type end (Err e) = Err (data_fault type (reason_of e))

-- The data of a type and a length: none where the length is 0, and else what fills the length exactly.
unfoldable pub rdata_at : RecordType → ℕ → List ℕ → ℕ → Read RData
rdata_at type len bytes i = if len == 0 then Ok (kinds.Update0 type, i)
    else filling type (i + len) (kind_at type len bytes i)
