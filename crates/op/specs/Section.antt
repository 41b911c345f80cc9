-- The sections of a message: the tests on their records, and what becomes of them (RFC 1035, 4.1; RFC 6891, 6.1.1; RFC
-- 8945, 5.1).
use Rattle.std.specs.Prelude.{◌≡◌, All, ℕ, Bool, true, false, not, ◌&&◌, ◌||◌, ◌≤◌, ◌/◌, ◌%◌, ◌++◌, List, [], ◌∷◌}
use Rattle.std.specs.Prelude.{length, filter, find, Option, Some, None}
use Rattle.std.specs.Prelude.{if◌then◌else◌, is_some, zero, suc, Ok, Err, Result}
use Rattle.std.specs.Global.{Box, Vec}
use Rattle.std.specs.Option.{option_map}
use Rattle.base.specs.DNSClass.{class_number}
use Rattle.base.specs.reading.Reading.{Read, ◌>>=◌}
use Rattle.base.specs.Words.{BackToBack}
use Rattle.base.specs.declared.error.decode_error.DecodeError.{DecodeError}
use Rattle.base.specs.declared.error.decode_error.DecodeError.TheVariants as faults
use Rattle.base.specs.declared.record_type.RecordType.{RecordType}
use Rattle.base.specs.declared.record_type.RecordType.TheVariants as types
use Rattle.base_data.specs.Kinds.{type_of_data}
use Rattle.base_data.specs.OPT.{OptionValue}
use Rattle.base_data.specs.RData.{is_empty_data, is_signature_data, signature_in}
use Rattle.base_data.specs.declared.rdata.RData.{RData}
use Rattle.base_data.specs.declared.rdata.RData.TheVariants as kinds
use Rattle.rr.specs.Record.{IsRecordAt, is_opt_type, record_at}
use Rattle.rr.specs.declared.record.Record.{Record}
use Rattle.op.specs.EdnsFlags.{flags_of_number}
use Rattle.op.specs.declared.edns.Edns.{Edns}
use Rattle.op.specs.declared.header.header_counts.HeaderCounts.{HeaderCounts}
use Rattle.op.specs.declared.op_code.OpCode.{OpCode}
use Rattle.op.specs.declared.op_code.OpCode.TheVariants as op_codes

-- whether the operation is Update, whose records may be empty (RFC 2136, 2.4 and 2.5)
abbrev pub is_update : OpCode → Bool
is_update op_codes.Update = true
is_update _ = false

-- the types whose records stand among additionals alone (RFC 2931, 3.1; RFC 6891, 6.1.1; RFC 8945, 5.1)
abbrev pub is_additional_type : RecordType → Bool
is_additional_type types.OPT = true
is_additional_type types.SIG = true
is_additional_type types.TSIG = true
is_additional_type _ = false

-- a record of EDNS, with options or empty
abbrev pub is_opt : Record RData → Bool
is_opt r = is_opt_type (type_of_data r.rdata)

-- a signature over the message
abbrev pub is_signature : Record RData → Bool
is_signature r = is_signature_data r.rdata

-- a record that stands among additionals alone
abbrev pub is_additional : Record RData → Bool
is_additional r = is_additional_type (type_of_data r.rdata)

-- a record that is neither EDNS nor a signature
abbrev pub is_plain_record : Record RData → Bool
is_plain_record r = not (is_opt r || is_signature r)

-- data that an OPT record has: options, or none (RFC 6891, 6.1.2)
abbrev pub IsOptData : RData → Type 0
IsOptData (kinds.OPT options) = Unit {0}
IsOptData (kinds.Update0 type) = type ≡ types.OPT
IsOptData _ = ⊥

-- the options of the data of an OPT record
abbrev pub options_in : RData → List OptionValue
options_in (kinds.OPT options) = options
options_in _ = []

-- What an OPT record says: its TTL is the high code, the version and the flags, its class the payload size (RFC 6891,
-- 6.1.3).
abbrev pub edns_value : ℕ → ℕ → List OptionValue → Edns
edns_value payload ttl options = record {
  rcode_high = ttl / 16777216;
  version = ttl / 65536 % 256;
  flags = flags_of_number (ttl % 65536);
  max_payload = payload;
  options = options;
}

-- the EDNS that an OPT record says, if it is one
abbrev pub edns_of : Record RData → Edns
edns_of r = edns_value (class_number r.dns_class) r.ttl (options_in r.rdata)

-- a signature's record
abbrev pub signature_of : Record RData → Record (List ℕ)
signature_of r =
    record {
      name = r.name;
      dns_class = r.dns_class;
      ttl = r.ttl;
      rdata = signature_in r.rdata;
      mdns_cache_flush = r.mdns_cache_flush;
    }

-- what the records of a section are: ordinary records, EDNS and a signature
pub record SectionValue : Type 0 where
  pub records : List (Record RData)
  pub edns : Option Edns
  pub signature : Option (Record (List ℕ))

-- a section that is being read, as contracts see it
abbrev pub section_value : List (Record RData) → Option Edns
    → Option (Box (Record (List ℕ))) → SectionValue
section_value records edns signature =
    record {
      records = records;
      edns = edns;
      signature = option_map (λ b. b.value) signature;
    }

-- what reading a section answers, as contracts see it
abbrev pub read_section_value : Vec (Record RData) × Option Edns × Option (Box (Record (List ℕ)))
    → SectionValue
read_section_value parts = section_value parts.0.items parts.1 parts.2

-- what records become: EDNS and a signature by themselves, and the other records in their order
abbrev pub section_of : List (Record RData) → SectionValue
section_of rs = record {
  records = filter is_plain_record rs;
  edns = option_map edns_of (find is_opt rs);
  signature = option_map signature_of (find is_signature rs);
}

-- a section without records
abbrev pub empty_section : SectionValue
empty_section = record { records = []; edns = None; signature = None }

-- a section with one more record after its records
abbrev pub section_with : SectionValue → Record RData → SectionValue
section_with s r =
    if is_opt r then record s { edns = Some (edns_of r) }
    else (if is_signature r then record s { signature = Some (signature_of r) }
    else record s { records = s.records ++ r ∷ [] })

-- The first test that a record fails after the records of a section: empty data, a place after a signature, a place
-- outside additionals, a second EDNS record.
abbrev pub fault_in_section : Bool → OpCode → SectionValue → Record RData → Option DecodeError
fault_in_section is_additional_section op s r =
    if is_empty_data r.rdata && not (is_update op || is_opt r) then Some faults.InvalidEmptyRecord
    else (if is_some s.signature then Some faults.RecordAfterSig
    else (if not is_additional_section && is_additional r
    then Some (faults.RecordNotInAdditionalSection (type_of_data r.rdata))
    else (if is_some s.edns && is_opt r then Some faults.DuplicateEdns
    else None)))

-- a section, unless there is a fault
abbrev pub unless_fault : Option DecodeError → SectionValue → Result SectionValue DecodeError
unless_fault None s = Ok s
unless_fault (Some fault) s = Err fault

-- a section with a record that was read after its records, if the record may stand there
abbrev pub tested : Bool → OpCode → SectionValue → Record RData → Result SectionValue DecodeError
tested is_additional_section op s r =
    unless_fault (fault_in_section is_additional_section op s r) (section_with s r)

-- The section s with n more records, each tested before the next is read, or the first fault.
unfoldable pub section_from : Bool → OpCode → SectionValue → ℕ → List ℕ → ℕ → Read SectionValue
section_from is_additional_section op s zero bytes i = Ok (s, i)
section_from is_additional_section op s (suc n) bytes i = do
  next ← record_at bytes i
  more ← tested is_additional_section op s next.0
  section_from is_additional_section op more n bytes next.1

-- the section of `count` records at a place
abbrev pub section_at : Bool → OpCode → ℕ → List ℕ → ℕ → Read SectionValue
section_at is_additional_section op count bytes i =
    section_from is_additional_section op empty_section count bytes i

-- what the three sections of a message are
pub record SectionsValue : Type 0 where
  pub answers : SectionValue
  pub authorities : SectionValue
  pub additionals : SectionValue

-- the three sections at a place, one after another
abbrev pub sections_at : OpCode → HeaderCounts → List ℕ → ℕ → Read SectionsValue
sections_at op counts bytes i = do
  answers ← section_at false op counts.answers bytes i
  authorities ← section_at false op counts.authorities bytes answers.1
  additionals ← section_at true op counts.additionals bytes authorities.1
  Ok (
    record { answers = answers.0; authorities = authorities.0; additionals = additionals.0 },
    additionals.1,
  )

-- ---- the word of a section

-- empty data stands in an Update or in an OPT record (RFC 2136, 2.4)
abbrev pub HasNeededData : OpCode → Record RData → Type 0
HasNeededData op r = is_empty_data r.rdata ≡ true → (is_update op || is_opt r) ≡ true

-- a record that may stand among answers and authorities
pub record IsPlain (op : OpCode) (r : Record RData) : Type 0 where
  pub given : HasNeededData op r
  pub placed : is_additional r ≡ false

-- nothing stands after a signature (RFC 8945, 5.1)
abbrev pub EndsWithSignature : List (Record RData) → Type 0
EndsWithSignature [] = Unit {0}
EndsWithSignature (r ∷ rs) = (is_signature r ≡ true → rs ≡ []) × EndsWithSignature rs

-- at most one of the records is EDNS (RFC 6891, 6.1.1)
abbrev pub AtMostOneOpt : List (Record RData) → Type 0
AtMostOneOpt rs = length (filter is_opt rs) ≤ 1

-- The section s that `count` records make, which stand back to back in B from i up to e, and each of which may stand in
-- the section.
pub record IsSectionAt (is_additional_section : Bool) (op : OpCode) (count : ℕ) (B : List ℕ) (i : ℕ)
    (s : SectionValue) (e : ℕ) : Type 0 where
  pub records : List (Record RData)
  pub words : BackToBack (IsRecordAt B) i records e
  pub counted : length records ≡ count
  pub given : All (HasNeededData op) records
  pub placed : is_additional_section ≡ false → All (λ r. is_additional r ≡ false) records
  pub signature_last : EndsWithSignature records
  pub one_opt : AtMostOneOpt records
  pub section : s ≡ section_of records
