-- The first fault of a message (RFC 1035, 4.1; RFC 6891, 6.1.1; RFC 8945, 5.1): what stands before it, back to back,
-- and the first test that fails after that.
use Rattle.std.specs.Prelude.{◌≡◌, ◌≢◌, ◌⊎◌, ℕ, Bool, true, false, ◌+◌, ◌<◌, List, length, None}
use Rattle.base.specs.Words.{BackToBack}
use Rattle.base.specs.declared.error.decode_error.DecodeError.{DecodeError}
use Rattle.base.specs.declared.error.decode_error.DecodeError.TheVariants as faults
use Rattle.base_data.specs.Kinds.{type_of_data}
use Rattle.base_data.specs.RData.{is_empty_data}
use Rattle.base_data.specs.declared.rdata.RData.{RData}
use Rattle.rr.specs.Record.{IsRecordAt, IsRecordFault}
use Rattle.rr.specs.declared.record.Record.{Record}
use Rattle.op.specs.Header.{IsHeaderAt}
use Rattle.op.specs.Query.{IsQueryAt, IsQueryFault}
use Rattle.op.specs.Section.{HasNeededData, IsSectionAt, SectionValue, is_additional, is_opt, is_update}
use Rattle.op.specs.declared.header.Header.{Header}
use Rattle.op.specs.declared.op_code.OpCode.{OpCode}
use Rattle.op.specs.declared.query.Query.{Query}

-- Fewer questions stand than are counted, and what stands after them has this fault (RFC 1035, 4.1.2).
pub record IsQueriesFault (count : ℕ) (B : List ℕ) (i : ℕ) (f : DecodeError) : Type 0 where
  pub queries : List Query
  pub place : ℕ
  pub words : BackToBack (IsQueryAt B) i queries place
  pub fewer : length queries < count
  pub fault : IsQueryFault B place f

-- The first test that a record fails after a section: it is empty outside an Update and no OPT record (RFC 2136, 2.4);
-- it stands after a signature (RFC 8945, 5.1); it belongs among additionals and isn't there (RFC 2931, 3.1; RFC 6891,
-- 6.1.1; RFC 8945, 5.1); it is a second OPT record (RFC 6891, 6.1.1).
pub data IsMisplaced (is_additional_section : Bool) (op : OpCode) (before : SectionValue)
    (r : Record RData) : DecodeError → Type 0 where
  empty : is_empty_data r.rdata ≡ true → is_update op ≡ false → is_opt r ≡ false
      → IsMisplaced is_additional_section op before r faults.InvalidEmptyRecord
  after_signature : HasNeededData op r → before.signature ≢ None
      → IsMisplaced is_additional_section op before r faults.RecordAfterSig
  elsewhere : HasNeededData op r → before.signature ≡ None → is_additional_section ≡ false
      → is_additional r ≡ true
      → IsMisplaced is_additional_section op before r
      (faults.RecordNotInAdditionalSection (type_of_data r.rdata))
  second_edns : HasNeededData op r → before.signature ≡ None
      → (is_additional_section ≡ false → is_additional r ≡ false) → before.edns ≢ None
      → is_opt r ≡ true
      → IsMisplaced is_additional_section op before r faults.DuplicateEdns

-- A section of fewer records stands than are counted, and what stands after it is no record, or one that may not stand
-- there.
pub record IsSectionFault (is_additional_section : Bool) (op : OpCode) (count : ℕ) (B : List ℕ)
    (i : ℕ) (f : DecodeError) : Type 0 where
  pub number : ℕ
  pub before : SectionValue
  pub place : ℕ
  pub stands : IsSectionAt is_additional_section op number B i before place
  pub fewer : number < count
  pub fault : IsRecordFault B place f
      ⊎ ((r : Record RData) × (e : ℕ) × IsRecordAt B place r e
      × IsMisplaced is_additional_section op before r f)

-- a header stands at i, and after it the number of questions that it says, up to j
pub record HasQuestions (B : List ℕ) (i : ℕ) (h : Header) (j : ℕ) : Type 0 where
  pub header_stands : IsHeaderAt B i h
  pub queries : List Query
  pub queries_stand : BackToBack (IsQueryAt B) (i + 12) queries j
  pub counted : length queries ≡ h.counts.queries

-- The first fault of a message at i: fewer bytes than a header has; that of a question; that of a section, in their
-- order, each after all that stands before it.
pub data IsMessageFault (B : List ℕ) (i : ℕ) : DecodeError → Type 0 where
  cut_header : length B < i + 12 → IsMessageFault B i faults.InsufficientBytes
  in_queries : {h : Header} {f : DecodeError} → IsHeaderAt B i h
      → IsQueriesFault h.counts.queries B (i + 12) f → IsMessageFault B i f
  in_answers : {h : Header} {j : ℕ} {f : DecodeError} → HasQuestions B i h j
      → IsSectionFault false h.metadata.op_code h.counts.answers B j f → IsMessageFault B i f
  in_authorities : {h : Header} {j k : ℕ} {answers : SectionValue} {f : DecodeError}
      → HasQuestions B i h j
      → IsSectionAt false h.metadata.op_code h.counts.answers B j answers k
      → IsSectionFault false h.metadata.op_code h.counts.authorities B k f → IsMessageFault B i f
  in_additionals : {h : Header} {j k l : ℕ} {answers authorities : SectionValue} {f : DecodeError}
      → HasQuestions B i h j
      → IsSectionAt false h.metadata.op_code h.counts.answers B j answers k
      → IsSectionAt false h.metadata.op_code h.counts.authorities B k authorities l
      → IsSectionFault true h.metadata.op_code h.counts.additionals B l f → IsMessageFault B i f
