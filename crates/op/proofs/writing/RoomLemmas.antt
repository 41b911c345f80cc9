-- How many values the parts of a message have, and where they end.
use Rattle.std.proofs.Common.{ℕ, ◌+◌, ◌<◌, ◌≤◌, ◌^◌, inl, inr, List, [], ◌∷◌, ◌++◌, length, arith, length-append}
use Rattle.std.proofs.Common.{Option, Some, None}
use Rattle.std.specs.Int.{w16, to_be_bytes}
use Rattle.std.specs.Option.{option_map}
use Rattle.std.proofs.lemmas.Bool.{cases_lt}
use Rattle.base.specs.writing.State.{Stored}
use Rattle.base.specs.writing.Written.{Writing, both, found_in, in_turn, just, label_of, name, pointer_or, sized}
use Rattle.base.specs.writing.Written.{that_fit}
use Rattle.base.proofs.writing.FittingLemmas.{first_fits, none_fits}
use Rattle.base_data.specs.declared.rdata.RData.{RData}
use Rattle.base_data.specs.Kinds.{data_written}
use Rattle.rr.specs.Record.{fields_of, raw_record, record_written}
use Rattle.rr.specs.declared.record.Record.{Record}
use Rattle.op.specs.Cut.{raised}
use Rattle.op.specs.EdnsRecord.{edns_record}
use Rattle.op.specs.Fits.{as_list, signature_record}
use Rattle.op.specs.Message.{MessageValue}
use Rattle.op.specs.MessageWritten.{Parts, parts_of}
use Rattle.op.specs.Query.{query_written, raw_query}
use Rattle.op.specs.declared.query.Query.{Query}

-- ---- bytes that are written

-- a name takes a byte at least, be it a pointer
name_some : (labels : List (List ℕ)) (at : ℕ) (stored : List Stored) → 1 ≤ length (name labels at stored).bytes
name_some [] at stored = omega arith
name_some (x ∷ xs) at stored = go (found_in stored (x ∷ xs)) where
  go : (found : Option ℕ) → 1 ≤ length (pointer_or (both (label_of x xs) (name xs)) found at stored).bytes
  go None = omega (
    arith,
    length-append (length x ∷ x)
        (name xs (at + length (length x ∷ x)) (label_of x xs at stored).suffixes).bytes,
  )
  go (Some offset) = omega arith

-- so do a question and a record
pub query_some : (q : Query) (at : ℕ) (stored : List Stored) → 1 ≤ length (query_written q at stored).bytes
query_some q at stored =
    let first = name (raw_query q).labels at stored in
    omega (
      arith,
      name_some (raw_query q).labels at stored,
      length-append first.bytes (to_be_bytes w16 (raw_query q).type ++ to_be_bytes w16 (raw_query q).class),
    )

pub record_some : (r : Record RData) (at : ℕ) (stored : List Stored) → 1 ≤ length (record_written r at stored).bytes
record_some r at stored =
    let raw = raw_record r in
    let first = name raw.labels at stored in
    let rest = both (just (fields_of raw.type raw.class raw.ttl)) (sized (data_written raw.rdata))
    (at + length first.bytes) first.suffixes in
    omega (arith, name_some raw.labels at stored, length-append first.bytes rest.bytes)

-- and as many of them as many bytes
pub each_some : {E : Type 0} (f : E → Writing)
    → ((x : E) (at : ℕ) (stored : List Stored) → 1 ≤ length (f x at stored).bytes)
    → (xs : List E) (at : ℕ) (stored : List Stored)
    → length xs ≤ length (in_turn f xs at stored).bytes
each_some f some [] at stored = omega arith
each_some f some (x ∷ xs) at stored =
    let first = f x at stored in
    let next = at + length first.bytes in
    omega (
      arith,
      some x at stored,
      each_some f some xs next first.suffixes,
      length-append first.bytes (in_turn f xs next first.suffixes).bytes,
    )

-- those that fit end within the limit
fit_end : {E : Type 0} (f : E → Writing) (limit : ℕ) (xs : List E) (at : ℕ) (stored : List Stored) → at ≤ limit
    → at + length (in_turn f (that_fit f limit xs at stored) at stored).bytes ≤ limit
fit_end f limit [] at stored within = omega (arith, within)
fit_end f limit (x ∷ xs) at stored within =
    let first = f x at stored in
    let end = at + length first.bytes in
    elim (cases_lt limit end) [
      | inl full ↦ rw (none_fits f limit x xs at stored full) (omega (arith, within))
      | inr fits ↦
          let sum = length-append first.bytes
          (in_turn f (that_fit f limit xs end first.suffixes) end first.suffixes).bytes in
          rw (first_fits f limit x xs at stored fits) (omega (arith, fit_end f limit xs end first.suffixes fits, sum))
    ]

-- Where the parts of a message end: within the limit, and each has no more values than bytes.
pub record PartEnds (limit at : ℕ) (p : Parts) : Type 0 where
  pub queries : at + length p.queries.kept ≤ p.queries.end
  pub answers : p.queries.end + length p.answers.kept ≤ p.answers.end
  pub authorities : p.answers.end + length p.authorities.kept ≤ p.authorities.end
  pub additionals : p.authorities.end + length p.additionals.kept ≤ p.additionals.end
  pub edns : p.additionals.end + length p.edns.kept ≤ p.edns.end
  pub signature : p.edns.end + length p.signature.kept ≤ p.signature.end
  pub all : p.signature.end ≤ limit

pub part_ends : (limit : ℕ) (m : MessageValue) (at : ℕ) (stored : List Stored) → at ≤ limit
    → PartEnds limit at (parts_of limit m at stored)
part_ends limit m at stored room =
    let p = parts_of limit m at stored in
    let q = fit_end query_written limit m.queries at stored room in
    let a = fit_end record_written limit m.answers p.queries.end p.queries.piece.suffixes q in
    let n = fit_end record_written limit m.authorities p.answers.end p.answers.piece.suffixes a in
    let d = fit_end record_written limit m.additionals p.authorities.end p.authorities.piece.suffixes n in
    let o = fit_end record_written limit (as_list (option_map edns_record (raised m))) p.additionals.end
    p.additionals.piece.suffixes d in
    record {
      queries = omega (arith, each_some query_written query_some p.queries.kept at stored);
      answers = omega (
        arith,
        each_some record_written record_some p.answers.kept p.queries.end
            p.queries.piece.suffixes,
      );
      authorities = omega (
        arith,
        each_some record_written record_some p.authorities.kept p.answers.end
            p.answers.piece.suffixes,
      );
      additionals = omega (
        arith,
        each_some record_written record_some p.additionals.kept p.authorities.end
            p.authorities.piece.suffixes,
      );
      edns = omega (
        arith,
        each_some record_written record_some p.edns.kept p.additionals.end
            p.additionals.piece.suffixes,
      );
      signature = omega (arith, each_some record_written record_some p.signature.kept p.edns.end p.edns.piece.suffixes);
      all = fit_end record_written limit (as_list (option_map signature_record m.signature)) p.edns.end
          p.edns.piece.suffixes o;
    }

-- so no part has more than a header can count
pub record AreFew (p : Parts) : Type 0 where
  pub queries : length p.queries.kept < 2 ^ 16
  pub answers : length p.answers.kept < 2 ^ 16
  pub authorities : length p.authorities.kept < 2 ^ 16
  pub additionals : length p.additionals.kept + (length p.edns.kept + length p.signature.kept) < 2 ^ 16

pub are_few : {limit at : ℕ} {p : Parts} → PartEnds limit at p → limit < 2 ^ 16 → AreFew p
are_few {limit} {p = p} e small =
    let additional = length p.additionals.kept + (length p.edns.kept + length p.signature.kept) in
    let all : p.authorities.end + additional ≤ limit = omega (arith, e.additionals, e.edns, e.signature, e.all) in
    record {
      queries = omega (arith, e.queries, e.answers, e.authorities, all, small);
      answers = omega (arith, e.queries, e.answers, e.authorities, all, small);
      authorities = omega (arith, e.queries, e.answers, e.authorities, all, small);
      additionals = omega (arith, e.queries, e.answers, e.authorities, all, small);
    }
