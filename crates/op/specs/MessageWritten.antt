-- What is written of a message under a limit, as a function of both (RFC 1035, 4.1; RFC 2181, 9; RFC 6891, 6.1.3).
use Rattle.std.specs.Prelude.{◌≡◌, ℕ, Bool, ◌+◌, ◌||◌, List, [], ◌++◌, false, length, nat_lt, replicate, if◌then◌else◌}
use Rattle.std.specs.Prelude.{Result, Ok, Err}
use Rattle.std.specs.Option.{option_map}
use Rattle.base.specs.writing.State.{State, Stored}
use Rattle.base.specs.declared.error.proto_error.ProtoError.{ProtoError}
use Rattle.base.specs.declared.error.proto_error.ProtoError.TheVariants as refusals
use Rattle.base.specs.writing.Written.{FirstPassesAt, Piece, Writing, after, both, in_turn, just, that_fit}
use Rattle.base_data.specs.declared.rdata.RData.{RData}
use Rattle.rr.specs.Record.{record_written}
use Rattle.rr.specs.declared.record.Record.{Record}
use Rattle.op.specs.Cut.{raised}
use Rattle.op.specs.EdnsRecord.{edns_record}
use Rattle.op.specs.Fits.{as_list, signature_record}
use Rattle.op.specs.Header.{header_bytes, raw_header}
use Rattle.op.specs.Message.{MessageValue}
use Rattle.op.specs.Query.{query_written}
use Rattle.op.specs.declared.header.Header.{Header}
use Rattle.op.specs.declared.query.Query.{Query}

-- a part: the values that are kept, and what is written of them
pub record Part (E : Type 0) : Type 0 where
  pub kept : List E
  pub is_cut : Bool
  pub end : ℕ
  pub piece : Piece

-- those of xs that fit under a limit, from a place on
abbrev pub part_within : {E : Type 0} → (E → Writing) → ℕ → List E → ℕ → List Stored → Part E
part_within f limit xs at stored =
    let kept = that_fit f limit xs at stored in
    let piece = in_turn f kept at stored in
    record {
      kept = kept;
      is_cut = nat_lt (length kept) (length xs);
      end = at + length piece.bytes;
      piece = piece;
    }

-- the part that follows one, whatever became of it
abbrev pub part_after : {D E : Type 0} → (E → Writing) → ℕ → List E → Part D → Part E
part_after f limit xs before = part_within f limit xs before.end before.piece.suffixes

-- the parts of a message after its header (RFC 1035, 4.1)
pub record Parts : Type 0 where
  pub queries : Part Query
  pub answers : Part (Record RData)
  pub authorities : Part (Record RData)
  pub additionals : Part (Record RData)
  pub edns : Part (Record RData)
  pub signature : Part (Record RData)

-- the parts of a message under a limit, from a place on
abbrev pub parts_of : ℕ → MessageValue → ℕ → List Stored → Parts
parts_of limit m at stored =
    let queries = part_within query_written limit m.queries at stored in
    let answers = part_after record_written limit m.answers queries in
    let authorities = part_after record_written limit m.authorities answers in
    let additionals = part_after record_written limit m.additionals authorities in
    let edns =
    part_after record_written limit (as_list (option_map edns_record (raised m))) additionals in
    let signature =
    part_after record_written limit (as_list (option_map signature_record m.signature)) edns in
    record {
      queries = queries;
      answers = answers;
      authorities = authorities;
      additionals = additionals;
      edns = edns;
      signature = signature;
    }

-- No part is cut.
pub record AreWhole (p : Parts) : Type 0 where
  pub queries : p.queries.is_cut ≡ false
  pub answers : p.answers.is_cut ≡ false
  pub authorities : p.authorities.is_cut ≡ false
  pub additionals : p.additionals.is_cut ≡ false
  pub edns : p.edns.is_cut ≡ false
  pub signature : p.signature.is_cut ≡ false

-- What a part lost stood after what it kept, and the first of it would have passed the limit by its own bytes.
pub record LostForRoom {E : Type 0} (f : E → Writing) (limit : ℕ) (xs : List E)
    (p : Part E) : Type 0 where
  pub lost : List E
  pub whole : xs ≡ p.kept ++ lost
  pub passes : FirstPassesAt f limit p.end p.piece.suffixes lost

-- the header of these parts: it counts what is kept, and TC is set where a record is lost
abbrev pub header_of : MessageValue → Parts → Header
header_of m p = record {
  metadata = record m.metadata {
    truncation = m.metadata.truncation || (p.answers.is_cut || (p.authorities.is_cut
        || (p.additionals.is_cut || (p.edns.is_cut || p.signature.is_cut))));
  };
  counts = record {
    queries = length p.queries.kept;
    answers = length p.answers.kept;
    authorities = length p.authorities.kept;
    additionals = length p.additionals.kept + (length p.edns.kept + length p.signature.kept);
  };
}

-- what is written of these parts
abbrev pub body : Parts → Writing
body p =
    both (in_turn query_written p.queries.kept) (both (in_turn record_written p.answers.kept)
    (both (in_turn record_written p.authorities.kept)
    (both (in_turn record_written p.additionals.kept)
    (both (in_turn record_written p.edns.kept) (in_turn record_written p.signature.kept)))))

-- A message under a limit: a header of twelve bytes, and its parts.
abbrev pub message_written : ℕ → MessageValue → Writing
message_written limit m at stored =
    let p = parts_of limit m (at + 12) stored in
    both (just (header_bytes (raw_header (header_of m p)))) (body p) at stored

-- the bytes of a message that a new encoder writes under a limit
abbrev pub message_bytes : ℕ → MessageValue → List ℕ
message_bytes limit m = (message_written limit m 0 []).bytes

-- What an encoder that holds `at` bytes, and these suffixes, answers to a message under a limit, unless memory runs
-- out: what is written; or that the header has no room; or that not all questions have, and how many of them do.
abbrev pub message_answer_at : ℕ → MessageValue → ℕ → List Stored → Result (List ℕ) ProtoError
message_answer_at limit m at stored =
    let asked = part_within query_written limit m.queries (at + 12) stored in
    if nat_lt limit (at + 12) then Err refusals.MaxBufferSizeExceeded
    else (if asked.is_cut then Err (refusals.NotAllRecordsWritten (length asked.kept))
    else Ok (message_written limit m at stored).bytes)

-- what a new encoder answers to a message under a limit, unless memory runs out
abbrev pub message_answer : ℕ → MessageValue → Result (List ℕ) ProtoError
message_answer limit m = message_answer_at limit m 0 []

-- What writing a message leaves: what is written; where the header has no room, nothing; and where not all questions
-- have, room for a header and those that do.
abbrev pub message_left : MessageValue → State → Result (List ℕ) ProtoError → State
message_left m s (Ok bytes) = after (message_written s.limit m) s
message_left m s (Err (refusals.NotAllRecordsWritten count)) =
    let asked = part_within query_written s.limit m.queries (length s.bytes + 12) s.suffixes in
    after (both (just (replicate 12 0)) (in_turn query_written asked.kept)) s
message_left m s (Err e) = s

-- what writing a message answers, and leaves
abbrev pub Answers : MessageValue → State → Result (List ℕ) ProtoError → State → Type 0
Answers m old answer new =
    (message_answer_at old.limit m (length old.bytes) old.suffixes ≡ answer)
    × (new ≡ message_left m old answer)
