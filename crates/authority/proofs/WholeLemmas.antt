-- A message whose records have room without compression isn't cut.
use Rattle.authority.specs.Reply.{edns_of_reply, one_question}
use Rattle.authority.specs.Transfer.{plain_records, questions_at, room_beside, transferring}
use Rattle.authority.specs.declared.transferring.TransferPlace.TheVariants as places
use Rattle.authority.specs.declared.transferring.TransferPlace.{TransferPlace}
use Rattle.base.proofs.writing.FittingLemmas.{all_fit}
use Rattle.base.specs.writing.State.{Stored}
use Rattle.base.specs.writing.Written.{Writing, in_turn}
use Rattle.base_data.specs.Kinds.{data_says}
use Rattle.base_data.specs.declared.rdata.RData.{RData}
use Rattle.op.proofs.AnswerLaws.{queries_most}
use Rattle.op.specs.Cut.{raised}
use Rattle.op.specs.EdnsRecord.{edns_record}
use Rattle.op.specs.Fits.{as_list, plain_queries, signature_record, with_high_bits}
use Rattle.op.specs.Message.{MessageValue}
use Rattle.op.specs.MessageWritten.{AreWhole, part_within, parts_of}
use Rattle.op.specs.Query.{query_written}
use Rattle.op.specs.declared.edns.Edns.{Edns}
use Rattle.op.specs.declared.query.Query.{Query}
use Rattle.op.specs.declared.response_code.ResponseCode.TheVariants.{NoError}
use Rattle.op.specs.declared.response_code.ResponseCode.{ResponseCode}
use Rattle.rr.specs.Record.{record_written}
use Rattle.rr.specs.RecordSays.{record_says}
use Rattle.rr.specs.declared.record.Record.{Record}
use Rattle.std.proofs.Common.{ap, arith, length, length-append, refl, ◌+◌, ◌∙◌, ◌≤◌}
use Rattle.std.proofs.lemmas.Bool.{le-ltb}
use Rattle.std.specs.Option.{option_map}
use Rattle.std.specs.Prelude.{List, None, Option, Some, [], false, nat_lt, ℕ, ◌∷◌, ◌≡◌, ◌≢◌}

-- records take no more bytes than uncompressed
records_most : (rs : List (Record RData)) (at : ℕ) (stored : List Stored)
    → length (in_turn record_written rs at stored).bytes ≤ plain_records rs
records_most [] at stored = omega arith
records_most (r ∷ rs) at stored =
    let first = record_written r at stored in
    omega (
      arith,
      records_most rs (at + length first.bytes) first.suffixes,
      (record_says r (data_says r.rdata)).at_most at stored,
      length-append first.bytes (in_turn record_written rs (at + length first.bytes) first.suffixes).bytes,
    )

-- values that take at most so many bytes are kept where these have room
part_fits : {E : Type 0} (f : E → Writing) (limit most : ℕ) (xs : List E) (at : ℕ) (stored : List Stored)
    → length (in_turn f xs at stored).bytes ≤ most → at + most ≤ limit
    → ((part_within f limit xs at stored).is_cut ≡ false) × ((part_within f limit xs at stored).end ≤ at + most)
part_fits f limit most xs at stored few room =
    let all = all_fit f limit xs at stored (omega (arith, few, room)) in (
      ap (λ ys. nat_lt (length ys) (length xs)) all ∙ le-ltb (length xs) (length xs) (omega arith),
      omega (arith, few, ap (λ ys. length (in_turn f ys at stored).bytes) all),
    )

-- a message without authorities, additional records and signature
module _ (limit : ℕ) (m : MessageValue) (opt : ℕ)
    (none : m.authorities ≡ []) (no_more : m.additionals ≡ []) (unsigned : m.signature ≡ None)
    (edns : plain_records (as_list (option_map edns_record (raised m))) ≤ opt)
    (room : 12 + plain_queries m.queries + plain_records m.answers + opt ≤ limit) where
  pub is_whole : AreWhole (parts_of limit m 12 [])
  is_whole =
      let p = parts_of limit m 12 [] in
      let queries = part_fits query_written limit (plain_queries m.queries) m.queries 12 []
      (queries_most m.queries 12 []) (omega (arith, room)) in
      let answers = part_fits record_written limit (plain_records m.answers) m.answers p.queries.end
      p.queries.piece.suffixes (records_most m.answers p.queries.end p.queries.piece.suffixes)
      (omega (arith, room, queries.1)) in
      let authorities = part_fits record_written limit 0 m.authorities p.answers.end p.answers.piece.suffixes
      (omega (arith, records_most m.authorities p.answers.end p.answers.piece.suffixes, ap plain_records none))
      (omega (arith, room, queries.1, answers.1)) in
      let additionals = part_fits record_written limit 0 m.additionals p.authorities.end p.authorities.piece.suffixes
      (omega (
        arith,
        records_most m.additionals p.authorities.end p.authorities.piece.suffixes,
        ap plain_records no_more,
      )) (omega (arith, room, queries.1, answers.1, authorities.1)) in
      let opts : List (Record RData) = as_list (option_map edns_record (raised m)) in
      let edns_fits = part_fits record_written limit opt opts p.additionals.end p.additionals.piece.suffixes
      (omega (arith, records_most opts p.additionals.end p.additionals.piece.suffixes, edns))
      (omega (arith, room, queries.1, answers.1, authorities.1, additionals.1)) in
      record {
        queries = queries.0;
        answers = answers.0;
        authorities = authorities.0;
        additionals = additionals.0;
        edns = edns_fits.0;
        signature = ap (λ (o : Option (Record (List ℕ))). (part_within record_written limit
            (as_list (option_map signature_record o)) p.edns.end p.edns.piece.suffixes).is_cut) unsigned;
      }

-- EDNS of a reply takes eleven bytes
opt_most : (code : ResponseCode) (e : Option Edns)
    → plain_records (as_list (option_map edns_record (option_map (with_high_bits code) (option_map edns_of_reply e))))
    ≤ 11
opt_most code None = omega arith
opt_most code (Some e) = omega arith

-- the questions of a message take no more than those of the query
few_questions : (place : TransferPlace) (qs : List Query) → plain_queries (questions_at place qs) ≤ plain_queries qs
few_questions places.Start qs = omega arith
few_questions (places.Records k j) qs = omega arith
few_questions places.LastSoa qs = omega arith
few_questions places.End qs = omega arith

some_bytes : (rs : List (Record RData)) → rs ≢ [] → 1 ≤ plain_records rs
some_bytes [] some = absurd (some refl)
some_bytes (r ∷ rs) some = omega arith

few_asked : (qs : List Query) → plain_queries (one_question qs) ≤ plain_queries qs
few_asked [] = omega arith
few_asked (q ∷ []) = omega arith
few_asked (q ∷ (r ∷ qs)) = omega arith

-- a message of a transfer whose answers have room isn't cut
pub transfer_whole : (m : MessageValue) (place : TransferPlace) (rs : List (Record RData)) (left : ℕ) → rs ≢ []
    → plain_records rs + left ≡ room_beside m.queries → AreWhole (parts_of 65535 (transferring m place rs) 12 [])
transfer_whole m place rs left some room =
    is_whole 65535 (transferring m place rs) 11 refl refl refl (opt_most NoError m.edns)
    (omega (
      arith,
      room,
      some_bytes rs some,
      few_questions place (one_question m.queries),
      few_asked m.queries,
    ))
