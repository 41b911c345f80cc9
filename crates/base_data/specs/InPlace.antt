-- Reading data into a place, and why it wasn't read.
use Rattle.std.specs.Prelude.{◌≡◌, Result, Ok, Err}
use Rattle.base.specs.reading.Reader.{Reader}
use Rattle.base.specs.reading.Reading.{Read}
use Rattle.base.specs.declared.error.decode_error.DecodeError.{DecodeError}
use Rattle.base.specs.declared.error.decode_error.DecodeError.TheVariants as faults
use Rattle.base.specs.declared.record_type.RecordType.{RecordType}
use Rattle.base_data.specs.declared.rdata.RData.{RData}
use Rattle.base_data.specs.declared.rdata.reading.DataError.{DataError}
use Rattle.base_data.specs.declared.rdata.reading.DataError.TheVariants as reasons

-- why data isn't read that has a fault
abbrev pub reason_of : DecodeError → DataError
reason_of faults.Memory = reasons.Memory
reason_of _ = reasons.BadData

-- the fault of data of a type
abbrev pub data_fault : RecordType → DataError → DecodeError
data_fault type reasons.Memory = faults.Memory
data_fault type reasons.BadData = faults.BadData type

-- reading meets a fault of the data
abbrev pub IsBad : Read RData → Type 0
IsBad (Err faults.Memory) = ⊥
IsBad (Err e) = Unit {0}
IsBad (Ok r) = ⊥

-- The data in a place is what reading gives, and the decoder stands after it; refused if memory runs out, or for a
-- fault
-- that reading meets.
abbrev pub ReadsInto : {X : Type 0} → Reader → Reader → RData → Result X DataError → Read RData → Type 0
ReadsInto old new d (Ok x) read = (read ≡ Ok (d, new.index)) × (new.bytes ≡ old.bytes)
ReadsInto old new d (Err reasons.Memory) read = Unit {0}
ReadsInto old new d (Err reasons.BadData) read = IsBad read
