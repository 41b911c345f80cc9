-- The names of a message stand at the places that are said to be theirs.
use Rattle.std.proofs.Common.{◌≡◌, ◌∙◌, ℕ, ◌+◌, List, [], ◌∷◌, ◌++◌, length, length-append, Ok, refl, ap, sym, subst}
use Rattle.std.proofs.Common.{arith}
use Rattle.std.specs.List.{flat_map}
use Rattle.base.specs.reading.Many.{many_at}
use Rattle.base.specs.reading.Reading.{Read, place_after}
use Rattle.base.specs.reading.Spelling.{IsNameAt, NamesStand, no_more, one_more}
use Rattle.base.proofs.reading.ManyLemmas.{many_again}
use Rattle.base.proofs.reading.NamesLemmas.{back_to_back, names_both, names_of_many}
use Rattle.rr.proofs.AddsRecord.{record_names_stand}
use Rattle.rr.proofs.ReadRecords.{reads_record}
use Rattle.rr.specs.Record.{record_at, record_names, record_places}
use Rattle.op.specs.Header.{header_at}
use Rattle.op.specs.Message.{IsMessageAt, MessageValue}
use Rattle.op.specs.Places.{counted_places, message_names, message_places, queries_places, query_places, records_places}
use Rattle.op.specs.Query.{IsQueryAt, query_at}
use Rattle.op.specs.declared.header.Header.{Header}
use Rattle.op.specs.declared.query.Query.{Query}
use Rattle.op.proofs.reading.HeaderReading.{reads_word}
use Rattle.op.proofs.reading.QueryLemmas.{reads_question}

-- a question's name stands at its place
question_names_stand : (B : List ℕ) (i : ℕ) (q : Query) (e : ℕ) → query_at B i ≡ Ok (q, e)
    → NamesStand B (query_places B i) (q.name ∷ [])
question_names_stand B i q e is =
    let at = (reads_question B i q e).0 is in
    let name : IsNameAt B i q.name at.word.owner_end =
    subst (λ (x : Query). IsNameAt B i x.name at.word.owner_end) (sym at.value)
    (record { spelled = at.word.owner.0; short = at.word.owner.1; absolute = refl }) in
    one_more name no_more

pub names_of_message : (B : List ℕ) (i : ℕ) (m : MessageValue) (e : ℕ) (w : IsMessageAt B i m e)
    → NamesStand B (message_places B i) (message_names w)
names_of_message B i m e w =
    let records = w.answers ++ (w.authorities ++ w.additionals) in
    let stand = back_to_back w.answers_stand (back_to_back w.authorities_stand w.additionals_stand) in
    let owners = names_of_many record_at record_places record_names B (λ j r k. (reads_record B j r k).1)
    (record_names_stand B) stand in
    let asked = names_of_many query_at query_places (λ (q : Query). q.name ∷ []) B (λ j q k. (reads_question B j q k).1)
    (question_names_stand B) w.queries_stand in
    let header_is : header_at B i ≡ Ok (w.header, i + 12) =
    (reads_word B i w.header (i + 12)).1 (w.header_stands, refl) in
    let questions_are : many_at query_at (length m.queries) B (i + 12) ≡ Ok (m.queries, w.queries_end) =
    many_again (IsQueryAt B) query_at B (λ j q k. (reads_question B j q k).1)
    (i + 12) m.queries w.queries_end w.queries_stand in
    let counts = w.header.counts in
    let asked_count : length m.queries ≡ counts.queries = sym (ap (λ c. c.queries) w.counts) in
    let count : length records ≡ counts.answers + counts.authorities + counts.additionals = omega (
      arith,
      length-append w.answers (w.authorities ++ w.additionals),
      length-append w.authorities w.additionals,
      ap (λ c. c.answers) w.counts,
      ap (λ c. c.authorities) w.counts,
      ap (λ c. c.additionals) w.counts,
    ) in
    let begins : w.queries_end ≡ place_after (many_at query_at counts.queries B (i + 12)) = sym (ap
    place_after questions_are) ∙ ap (λ (k : ℕ). place_after (many_at query_at k B (i + 12)))
    asked_count in
    let there : records_places (length records) B w.queries_end
    ≡ records_places (counts.answers + counts.authorities + counts.additionals) B
    (place_after (many_at query_at counts.queries B (i + 12))) =
    ap (λ (n : ℕ). records_places n B w.queries_end) count
    ∙ ap (records_places (counts.answers + counts.authorities + counts.additionals) B) begins in
    let all : NamesStand B (counted_places (Ok (w.header, i + 12)) B) (message_names w) =
    names_both (subst (λ (n : ℕ). NamesStand B (queries_places n B (i + 12))
    (flat_map (λ (q : Query). q.name ∷ []) m.queries)) asked_count asked)
    (subst (λ (places : List ℕ). NamesStand B places (flat_map record_names records)) there owners) in
    subst (λ (places : List ℕ). NamesStand B places (message_names w))
    (sym (ap (λ (r : Read Header). counted_places r B) header_is)) all
