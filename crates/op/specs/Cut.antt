-- What stands of a message that was written under a limit (RFC 1035, 4.1.1; RFC 2181, 9; RFC 6891, 6.1.3).
use Rattle.base.specs.declared.limits.TheConstants.{POINTER_LIMIT}
use Rattle.std.specs.Prelude.{◌≡◌, ◌≢◌, ℕ, Bool, true, false, All, ◌+◌, ◌%◌, ◌<◌, ◌≤◌, ◌||◌, List, [], ◌∷◌, ◌++◌}
use Rattle.std.specs.Prelude.{length, Option, Some, None, Ok}
use Rattle.std.specs.Option.{option_map}
use Rattle.base.specs.names.Labels.{size_of}
use Rattle.base.specs.Words.{BackToBack}
use Rattle.base.specs.declared.error.proto_error.ProtoError.{ProtoError}
use Rattle.base.specs.declared.error.proto_error.ProtoError.TheVariants as refusals
use Rattle.base.specs.Words.BackToBack.{none, more}
use Rattle.base_data.specs.declared.rdata.RData.{RData}
use Rattle.rr.specs.Record.{IsRecordAt, plain_record}
use Rattle.rr.specs.declared.record.Record.{Record}
use Rattle.op.specs.EdnsRecord.{edns_record, plain_edns}
use Rattle.op.specs.Fits.{as_list, plain_queries, signature_record, with_high_bits}
use Rattle.op.specs.Message.{IsMessageAt, MessageValue, message_at}
use Rattle.op.specs.Query.{IsQueryAt}
use Rattle.op.specs.ResponseCode.{code_number, code_value}
use Rattle.op.specs.declared.edns.Edns.{Edns}
use Rattle.op.specs.declared.query.Query.{Query}

-- ---- fronts

-- there was no room for the first of those that are lost
abbrev pub NoRoom : {X : Type 0} → (X → ℕ) → ℕ → ℕ → List X → Type 0
NoRoom plain limit place [] = Unit {0}
NoRoom plain limit place (x ∷ xs) = limit < place + plain x

-- What is kept is a front of the whole, and ends at this place; the next one had no room.
pub record IsFront {X : Type 0} (plain : X → ℕ) (limit place : ℕ) (whole kept : List X) : Type
    0 where
  pub lost : List X
  pub front : whole ≡ kept ++ lost
  pub full : NoRoom plain limit place lost

-- whether anything is lost
abbrev pub any_lost : {X : Type 0} → List X → Bool
any_lost [] = false
any_lost (x ∷ xs) = true

-- ---- owners

-- where the name of a question or record begins, its labels, and where its first piece ends
pub record OwnerAt : Type 0 where
  pub start : ℕ
  pub labels : List (List ℕ)
  pub end : ℕ

-- A later owner that ends in all labels of an earlier one, to which a pointer can point, has a pointer there.
abbrev pub PointsToEarlier : OwnerAt → OwnerAt → Type 0
PointsToEarlier earlier later = earlier.labels ≢ [] → earlier.start < POINTER_LIMIT
    → (front : List (List ℕ))
    → later.labels ≡ front ++ earlier.labels → later.end ≤ later.start + (size_of front + 2)

-- so has each owner for each before it
abbrev pub AreCompressed : List OwnerAt → Type 0
AreCompressed [] = Unit {0}
AreCompressed (o ∷ os) = All (PointsToEarlier o) os × AreCompressed os

-- the owners of words that stand back to back
unfoldable pub owners_by : {A : Type 0} {Word : ℕ → A → ℕ → Type 0} (labels : A → List (List ℕ))
    (end : (i : ℕ) (x : A) (e : ℕ) → Word i x e → ℕ) {i e : ℕ} {xs : List A}
    → BackToBack Word i xs e → List OwnerAt
owners_by labels end none = []
owners_by labels end (more {i = i} {j = j} {x = x} word rest) = record {
  start = i;
  labels = labels x;
  end = end i x j word;
} ∷ owners_by labels end rest

-- the owners of questions that stand back to back
abbrev pub query_owners : {B : List ℕ} {i e : ℕ} {qs : List Query} → BackToBack (IsQueryAt B) i qs e
    → List OwnerAt
query_owners d = owners_by (λ q. q.name.labels) (λ i q e word. word.word.owner_end) d

-- the owners of records that stand back to back
abbrev pub record_owners : {B : List ℕ} {i e : ℕ} {rs : List (Record RData)}
    → BackToBack (IsRecordAt B) i rs e → List OwnerAt
record_owners d = owners_by (λ r. r.name.labels) (λ i r e word. word.word.owner_end) d

-- the owners of a message, in order
abbrev pub owners : {B : List ℕ} {i e : ℕ} {m : MessageValue} → IsMessageAt B i m e → List OwnerAt
owners w = query_owners w.queries_stand
    ++ (record_owners w.answers_stand
    ++ (record_owners w.authorities_stand ++ record_owners w.additionals_stand))

-- ---- the cut

-- the message's EDNS, with the high bits of its code
abbrev pub raised : MessageValue → Option Edns
raised m = option_map (with_high_bits m.metadata.response_code) m.edns

-- how many codes can be told apart: by four bits, and with EDNS by twelve
abbrev pub code_range : Option Edns → ℕ
code_range None = 16
code_range (Some e) = 4096

-- the message as the wire has it: its code as far as it is written, and the raised EDNS
abbrev pub as_written : MessageValue → MessageValue
as_written m = record m {
  metadata =
      record m.metadata {
        response_code = code_value (code_number m.metadata.response_code % code_range m.edns);
      };
  edns = raised m;
}

-- B is a cut of m under the limit, read as c.
pub record IsCut (m : MessageValue) (limit : ℕ) (B : List ℕ) (c : MessageValue) : Type 0 where
  -- one whole word
  pub small : length B ≤ limit
  pub word : IsMessageAt B 0 c (length B)
  -- the additionals as they stand: c's, then OPT, then the signature
  pub additionals_end : ℕ
  pub edns_end : ℕ
  pub additionals_stand : BackToBack (IsRecordAt B) word.authorities_end c.additionals
      additionals_end
  pub edns_stands : BackToBack (IsRecordAt B) additionals_end
      (as_list (option_map edns_record c.edns)) edns_end
  pub signature_stands : BackToBack (IsRecordAt B) edns_end
      (as_list (option_map signature_record c.signature)) (length B)
  -- all questions, and fronts of all else
  pub queries : c.queries ≡ m.queries
  pub answers : IsFront plain_record limit word.answers_end m.answers c.answers
  pub authorities : IsFront plain_record limit word.authorities_end m.authorities c.authorities
  pub additionals : IsFront plain_record limit additionals_end m.additionals c.additionals
  pub edns : IsFront plain_edns limit edns_end (as_list (raised m)) (as_list c.edns)
  pub signature : IsFront (λ r. plain_record (signature_record r)) limit (length B)
      (as_list m.signature) (as_list c.signature)
  -- the code as far as it is written, TC, and every other field
  pub metadata : c.metadata ≡ record m.metadata {
    truncation = m.metadata.truncation
        || (any_lost answers.lost
        || (any_lost authorities.lost
        || (any_lost additionals.lost || (any_lost edns.lost || any_lost signature.lost))));
    response_code = code_value (code_number m.metadata.response_code % code_range c.edns);
  }
  -- owners that end in an earlier owner point to it
  pub short : AreCompressed (owners word)

-- nothing was lost
abbrev pub IsUncut : {m : MessageValue} {limit : ℕ} {B : List ℕ} {c : MessageValue}
    → IsCut m limit B c → Type 0
IsUncut k = (k.answers.lost ≡ []) × (k.authorities.lost ≡ []) × (k.additionals.lost ≡ [])
    × (k.edns.lost ≡ []) × (k.signature.lost ≡ [])

-- The bytes are a cut of the message, and are read, to their end, as exactly the message that the cut keeps.
pub record IsWritten (m : MessageValue) (limit : ℕ) (B : List ℕ) : Type 0 where
  pub message : MessageValue
  pub is_cut : IsCut m limit B message
  pub read : message_at B 0 ≡ Ok (message, length B)

-- The limit has no room for the header, or none for the questions after it.
abbrev pub IsTooSmall : MessageValue → ℕ → ProtoError → Type 0
IsTooSmall m limit refusals.MaxBufferSizeExceeded = limit < 12
IsTooSmall m limit (refusals.NotAllRecordsWritten _) = (12 ≤ limit)
    × (limit < 12 + plain_queries m.queries)
IsTooSmall m limit _ = ⊥
