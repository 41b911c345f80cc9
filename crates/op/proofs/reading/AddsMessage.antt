-- The places of the names of sections that stand one after another.
use Rattle.std.proofs.Common.{◌≡◌, ◌∙◌, ℕ, ◌+◌, zero, suc, Bool, false, List, [], ◌++◌, Ok, ap, sym, subst, arith}
use Rattle.std.proofs.Common.{append_assoc}
use Rattle.base.specs.reading.Many.{many_at, many_names}
use Rattle.base.specs.reading.Reader.{Reader}
use Rattle.base.specs.reading.Reading.{Read, place_after}
use Rattle.base.specs.reading.Tracks.{Tracked}
use Rattle.base.proofs.reading.ReadLemmas.{bind_ok}
use Rattle.base.proofs.reading.TrackLemmas.{tracked_both}
use Rattle.base_data.proofs.Tells.{same_ok}
use Rattle.rr.specs.Record.{record_at, record_places}
use Rattle.op.specs.Header.{header_at}
use Rattle.op.specs.Message.{MessageValue, message_at, rest_at}
use Rattle.op.specs.Places.{counted_places, message_places, queries_places, records_places}
use Rattle.op.specs.Query.{query_at}
use Rattle.op.specs.Section.{SectionValue, section_at, section_from, tested}
use Rattle.op.specs.declared.header.Header.{Header}
use Rattle.op.specs.declared.query.Query.{Query}
use Rattle.op.specs.declared.op_code.OpCode.{OpCode}

ends_at : (s t : SectionValue) (i j : ℕ) → ◌≡◌ {A = Read SectionValue} (Ok (s, i)) (Ok (t, j)) → i ≡ j
ends_at s t i j is = ap (λ (x : SectionValue × ℕ). x.1) (same_ok (s, i) (t, j) is)

-- records after those of a section that was read
places_joined : (inside : Bool) (op : OpCode) (bytes : List ℕ) (m n i : ℕ) (s t : SectionValue) (j : ℕ)
    → section_from inside op s n bytes i ≡ Ok (t, j)
    → records_places (n + m) bytes i ≡ records_places n bytes i ++ records_places m bytes j
unfolding many_names section_from
places_joined inside op bytes m zero i s t j is =
    let sum : 0 + m ≡ m = omega arith in
    ap (λ (k : ℕ). records_places k bytes i) sum ∙ ap (records_places m bytes) (ends_at s t i j is)
places_joined inside op bytes m (suc n) i s t j is =
    let next = bind_ok (record_at bytes i) _ (t, j) is in
    let more = bind_ok (tested inside op s next.value.0) _ (t, j) next.second in
    let rest = places_joined inside op bytes m n next.value.1 more.value t j more.second in
    let at : place_after (record_at bytes i) ≡ next.value.1 = ap place_after next.first in
    let sum : suc n + m ≡ suc (n + m) = omega arith in
    rw (sum, at) (ap (λ (qs : List ℕ). record_places bytes i ++ qs) rest
    ∙ sym (append_assoc (record_places bytes i) (records_places n bytes next.value.1) (records_places m bytes j)))

-- a section after records
pub adds_section : {old mid new : Reader} {s : SectionValue} (n m : ℕ) (inside : Bool) (op : OpCode)
    → section_at inside op n old.bytes old.index ≡ Ok (s, mid.index)
    → Tracked (records_places n old.bytes old.index) old mid → Tracked (records_places m mid.bytes mid.index) mid new
    → Tracked (records_places (n + m) old.bytes old.index) old new
adds_section {old} {mid} {new} {s} n m inside op is first second =
    let both = tracked_both first second in
    let there : records_places n old.bytes old.index ++ records_places m mid.bytes mid.index ≡ records_places
    (n + m) old.bytes old.index =
    ap (λ (bs : List ℕ). records_places n old.bytes old.index ++ records_places m bs mid.index) first.bytes
    ∙ sym (places_joined inside op old.bytes m n old.index _ s mid.index is) in
    subst (λ (qs : List ℕ). Tracked qs old new) there both

-- three sections
pub adds_sections : {old first second new : Reader} {s t : SectionValue} (a b c : ℕ) (op : OpCode)
    → section_at false op a old.bytes old.index ≡ Ok (s, first.index)
    → section_at false op b first.bytes first.index ≡ Ok (t, second.index)
    → Tracked (records_places a old.bytes old.index) old first
    → Tracked (records_places b first.bytes first.index) first second
    → Tracked (records_places c second.bytes second.index) second new
    → Tracked (records_places (a + b + c) old.bytes old.index) old new
adds_sections {old} {new = new} a b c op answers_are authorities_are answers authorities additionals =
    let others = adds_section b c false op authorities_are authorities additionals in
    let all = adds_section a (b + c) false op answers_are answers others in
    let sum : a + (b + c) ≡ a + b + c = omega arith in
    subst (λ (n : ℕ). Tracked (records_places n old.bytes old.index) old new) sum all

-- questions and records after a header
pub adds_message : {header : Header} {count : ℕ} {questions : List Query} {old first second new : Reader}
    → header_at old.bytes old.index ≡ Ok (header, first.index)
    → many_at query_at count first.bytes first.index ≡ Ok (questions, second.index) → count ≡ header.counts.queries
    → Tracked [] old first
    → Tracked (queries_places count first.bytes first.index) first second
    → Tracked (records_places (header.counts.answers + header.counts.authorities + header.counts.additionals)
    second.bytes second.index) second new
    → Tracked (message_places old.bytes old.index) old new
adds_message {header} {count} {questions} {old} {first} {second} {new} header_is questions_are counted none asked
    records =
    let n = header.counts.answers + header.counts.authorities + header.counts.additionals in
    let bytes : second.bytes ≡ old.bytes = asked.bytes ∙ none.bytes in
    let questions_there : queries_places count first.bytes first.index
    ≡ queries_places header.counts.queries old.bytes first.index =
    ap (λ (B : List ℕ). queries_places count B first.index) none.bytes
    ∙ ap (λ (k : ℕ). queries_places k old.bytes first.index) counted in
    let last : second.index ≡ place_after (many_at query_at header.counts.queries old.bytes first.index) =
    sym (ap place_after questions_are) ∙ ap (λ (B : List ℕ). place_after (many_at query_at count B first.index))
    none.bytes
    ∙ ap (λ (k : ℕ). place_after (many_at query_at k old.bytes first.index)) counted in
    let records_there : records_places n second.bytes second.index ≡ records_places n old.bytes
    (place_after (many_at query_at header.counts.queries old.bytes first.index)) =
    ap (λ (B : List ℕ). records_places n B second.index) bytes ∙ ap (records_places n old.bytes) last in
    let both : Tracked (queries_places count first.bytes first.index ++ records_places n second.bytes second.index) old
    new = tracked_both none (tracked_both asked records) in
    let there : counted_places (Ok (header, first.index)) old.bytes ≡ message_places old.bytes old.index =
    sym (ap (λ (r : Read Header). counted_places r old.bytes) header_is) in
    subst (λ (places : List ℕ). Tracked places old new) there (subst (λ (qs : List ℕ). Tracked
    (qs ++ records_places n old.bytes (place_after (many_at query_at header.counts.queries
    old.bytes first.index))) old new) questions_there
    (subst (λ (rs : List ℕ). Tracked (queries_places count first.bytes first.index ++ rs) old new) records_there both))

-- a message of its header, its questions and its records
pub reads_message : {header : Header} {count : ℕ} {questions : List Query} {r : MessageValue × ℕ}
    {B first second : List ℕ} {j k : ℕ} (i : ℕ) → header_at B i ≡ Ok (header, j) → first ≡ B
    → many_at query_at count first j ≡ Ok (questions, k) → count ≡ header.counts.queries → second ≡ first
    → rest_at header.metadata questions header.counts second k ≡ Ok r → message_at B i ≡ Ok r
unfolding message_at
reads_message {header} {count} {questions} {r} {B} {j = j} {k} i header_is kept questions_are counted same records =
    let there = subst (λ (b : List ℕ). many_at query_at count b j ≡ Ok (questions, k)) kept questions_are in
    let asked = subst (λ (n : ℕ). many_at query_at n B j ≡ Ok (questions, k)) counted there in
    rw (header_is, asked) (subst (λ (b : List ℕ). rest_at header.metadata questions header.counts b k ≡ Ok r)
    (same ∙ kept) records)
