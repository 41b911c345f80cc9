-- Messages that stand are messages that are read.
use Rattle.std.proofs.Common.{◌≡◌, ℕ, ◌+◌, Bool, true, false, cond, List, [], ◌∷◌, length, refl, ap, sym, ◌∙◌, subst}
use Rattle.std.proofs.Common.{arith, Ok, inl, inr}
use Rattle.std.proofs.lemmas.Bool.{cases_Bool, true≢false}
use Rattle.std.proofs.lemmas.List.Elements.{All-tail}
use Rattle.std.specs.Prelude.{All, ◌↔◌, ◌||◌, not, filter}
use Rattle.base.specs.declared.record_type.RecordType.{RecordType}
use Rattle.base.specs.reading.Many.{many_at}
use Rattle.base.specs.Words.{BackToBack}
use Rattle.base.proofs.reading.ManyLemmas.{many_again, many_stand}
use Rattle.base_data.proofs.EachKind.{signature_type}
use Rattle.base_data.specs.Kinds.{type_of_data}
use Rattle.base_data.specs.declared.rdata.RData.{RData}
use Rattle.rr.specs.Record.{IsRecordAt, is_opt_type}
use Rattle.rr.specs.declared.record.Record.{Record}
use Rattle.rr.proofs.ReadRecords.{opt_is, reads_record}
use Rattle.base_data.proofs.Tells.{same_ok}
use Rattle.op.specs.Header.{header_at}
use Rattle.op.specs.Message.{IsMessageAt, MessageValue, message_at, message_of}
use Rattle.op.specs.Query.{IsQueryAt, query_at}
use Rattle.op.specs.Section.{EndsWithSignature, IsPlain, IsSectionAt, SectionValue, is_additional, is_additional_type}
use Rattle.op.specs.Section.{is_opt, is_plain_record, is_signature, section_at}
use Rattle.op.specs.Section.{sections_at, section_of, SectionsValue}
use Rattle.op.specs.declared.op_code.OpCode.{OpCode}
use Rattle.op.specs.declared.query.Query.{Query}
use Rattle.op.proofs.reading.HeaderReading.{read_then, reads_word}
use Rattle.op.proofs.reading.QueryLemmas.{reads_question}
use Rattle.op.proofs.reading.SectionStands.{IsSection, section_is, section_read}
use Rattle.op.proofs.reading.SectionWords.{Stand}

-- ---- sections outside additionals hold ordinary records alone

pub not_opt : (t : RecordType) → is_additional_type t ≡ false → is_opt_type t ≡ false
not_opt t elsewhere = elim (cases_Bool (is_opt_type t)) [
  | inl is ↦ absurd (true≢false (sym (ap is_additional_type (opt_is t is)) ∙ elsewhere))
  | inr other ↦ other
]

pub not_signature : (r : Record RData) → is_additional r ≡ false → is_signature r ≡ false
not_signature r elsewhere = elim (cases_Bool (is_signature r)) [
  | inl is ↦ absurd (true≢false (sym (ap is_additional_type (signature_type r.rdata is)) ∙ elsewhere))
  | inr other ↦ other
]

ordinary_of : (o g : Bool) → o ≡ false → g ≡ false → not (o || g) ≡ true
ordinary_of o g no_edns unsigned = rw (no_edns, unsigned) refl

kept : (rs : List (Record RData)) → All (λ r. is_additional r ≡ false) rs → filter is_plain_record rs ≡ rs
kept [] plain = refl
kept (r ∷ rs) plain =
    let elsewhere : is_additional r ≡ false = plain 0 r (omega arith) in
    let ordinary : is_plain_record r ≡ true =
    ordinary_of (is_opt r) (is_signature r) (not_opt (type_of_data r.rdata) elsewhere) (not_signature r elsewhere) in
    let others = kept rs (All-tail (λ x. is_additional x ≡ false) r rs plain) in
    first (is_plain_record r) ordinary others
  where
    first : (b : Bool) → b ≡ true → filter is_plain_record rs ≡ rs
        → cond b (r ∷ filter is_plain_record rs) (filter is_plain_record rs) ≡ r ∷ rs
    first b is others = rw (is, others) refl

-- ---- the words of questions and records

queries_stand : (B : List ℕ) (n i : ℕ) (r : List Query × ℕ) → many_at query_at n B i ≡ Ok r
    → BackToBack (IsQueryAt B) i r.0 r.1 × (length r.0 ≡ n)
queries_stand B n i r is =
    let m = many_stand (IsQueryAt B) query_at B (λ j q read. (reads_question B j q.0 q.1).0 read) n i r is in
    (m.words, m.counted)

records_stand : (inside : Bool) (op : OpCode) (B : List ℕ) (n i : ℕ) (r : SectionValue × ℕ)
    → section_at inside op n B i ≡ Ok r → IsSection inside op B n i r
records_stand inside op B = section_is inside op B (λ i r e. (reads_record B i r e).0)

records_read : (inside : Bool) (op : OpCode) (B : List ℕ) (rs : List (Record RData)) (i e : ℕ)
    → BackToBack (IsRecordAt B) i rs e → Stand inside op false false rs
    → section_at inside op (length rs) B i ≡ Ok (section_of rs, e)
records_read inside op B = section_read inside op B (λ i r e. (reads_record B i r e).1)

section_is_at : (inside : Bool) (op : OpCode) (n : ℕ) (B : List ℕ) (i : ℕ) (r : SectionValue × ℕ)
    → section_at inside op n B i ≡ Ok r → IsSectionAt inside op n B i r.0 r.1
section_is_at inside op n B i r is =
    let s = records_stand inside op B n i r is in
    record {
      records = s.records;
      words = s.words;
      counted = s.counted;
      given = s.stand.given;
      placed = s.stand.placed;
      signature_last = s.stand.ends;
      one_opt = omega (arith, s.stand.one);
      section = s.whole;
    }

section_at_is : (inside : Bool) (op : OpCode) (n : ℕ) (B : List ℕ) (i : ℕ) (s : SectionValue) (e : ℕ)
    → IsSectionAt inside op n B i s e → section_at inside op n B i ≡ Ok (s, e)
section_at_is inside op n B i s e w =
    let read = records_read inside op B w.records i e w.words (record {
      given = w.given;
      placed = w.placed;
      alone = λ has. absurd (true≢false (sym has));
      ends = w.signature_last;
      one = omega (arith, w.one_opt);
    }) in
    sym (ap (λ k. section_at inside op k B i) w.counted) ∙ read ∙ ap (λ (x : SectionValue). Ok (x, e)) (sym w.section)

pub reads_section : (inside : Bool) (op : OpCode) (n : ℕ) (B : List ℕ) (i : ℕ) (s : SectionValue) (e : ℕ)
    → (section_at inside op n B i ≡ Ok (s, e)) ↔ IsSectionAt inside op n B i s e
reads_section inside op n B i s e = (section_is_at inside op n B i (s, e), section_at_is inside op n B i s e)

pub reads_questions : (n : ℕ) (B : List ℕ) (i : ℕ) (qs : List Query) (e : ℕ)
    → (many_at query_at n B i ≡ Ok (qs, e)) ↔ (BackToBack (IsQueryAt B) i qs e × (length qs ≡ n))
reads_questions n B i qs e = (
  queries_stand B n i (qs, e),
  λ w. sym (ap (λ k. many_at query_at k B i) w.1)
      ∙ many_again (IsQueryAt B) query_at B (λ j q k. (reads_question B j q k).1) i qs e w.0,
)

-- a section outside additionals that was read
record IsPlainSection (op : OpCode) (B : List ℕ) (n i : ℕ) (r : SectionValue × ℕ) : Type 0 where
  words : BackToBack (IsRecordAt B) i r.0.records r.1
  counted : length r.0.records ≡ n
  plain : All (IsPlain op) r.0.records

plain_stand : (op : OpCode) (B : List ℕ) (n i : ℕ) (r : SectionValue × ℕ) → section_at false op n B i ≡ Ok r
    → IsPlainSection op B n i r
plain_stand op B n i r is =
    let s = records_stand false op B n i r is in
    let placed = s.stand.placed refl in
    let same : s.records ≡ r.0.records = sym (ap (λ (x : SectionValue). x.records) s.whole ∙ kept s.records placed) in
    let plain : All (IsPlain op) s.records = λ k d below.
    record { given = s.stand.given k d below; placed = placed k d below } in
    record {
      words = subst (λ rs. BackToBack (IsRecordAt B) i rs r.1) same s.words;
      counted = subst (λ (rs : List (Record RData)). length rs ≡ n) same s.counted;
      plain = subst (λ rs. All (IsPlain op) rs) same plain;
    }

plain_ends : (rs : List (Record RData)) → All (λ r. is_additional r ≡ false) rs → EndsWithSignature rs
plain_ends [] plain = tt
plain_ends (r ∷ rs) plain = (
  λ is. absurd (true≢false (sym is ∙ not_signature r (plain 0 r (omega arith)))),
  plain_ends rs (All-tail (λ x. is_additional x ≡ false) r rs plain),
)

no_edns : (rs : List (Record RData)) → All (λ r. is_additional r ≡ false) rs → length (filter is_opt rs) ≡ 0
no_edns [] plain = refl
no_edns (r ∷ rs) plain = rw (not_opt (type_of_data r.rdata) (plain 0 r (omega arith)))
    (no_edns rs (All-tail (λ x. is_additional x ≡ false) r rs plain))

plain_read : (op : OpCode) (B : List ℕ) (rs : List (Record RData)) (i e : ℕ) → BackToBack (IsRecordAt B) i rs e
    → All (IsPlain op) rs → section_at false op (length rs) B i ≡ Ok (section_of rs, e)
plain_read op B rs i e words plain =
    let placed : All (λ r. is_additional r ≡ false) rs = λ k d below. (plain k d below).placed in
    records_read false op B rs i e words (record {
      given = λ k d below. (plain k d below).given;
      placed = λ _. placed;
      alone = λ has. absurd (true≢false (sym has));
      ends = plain_ends rs placed;
      one = omega (arith, no_edns rs placed);
    })

-- ---- the message

pub message_stands : (B : List ℕ) (i : ℕ) (r : MessageValue × ℕ) → message_at B i ≡ Ok r → IsMessageAt B i r.0 r.1
unfolding message_at
message_stands B i r is =
    read_then (header_at B i) _ r is (λ header header_read is1.
    let h = header.0 in
    let op = h.metadata.op_code in
    read_then (many_at query_at h.counts.queries B header.1) _ r is1 (λ queries queries_read is2.
    read_then (sections_at op h.counts B queries.1) _ r is2 (λ all all_read is3.
    read_then (section_at false op h.counts.answers B queries.1) _ all all_read (λ answers answers_read is4.
    read_then (section_at false op h.counts.authorities B answers.1) _ all is4 (λ authorities authorities_read is5.
    read_then (section_at true op h.counts.additionals B authorities.1) _ all is5 (λ additionals additionals_read is6.
    let three : (
      record { answers = answers.0; authorities = authorities.0; additionals = additionals.0 },
      additionals.1,
    ) ≡ all = same_ok _ _ is6 in
    let stands = (reads_word B i h header.1).0 header_read in
    let qs = queries_stand B h.counts.queries header.1 queries queries_read in
    let first = plain_stand op B h.counts.answers queries.1 answers answers_read in
    let second = plain_stand op B h.counts.authorities answers.1 authorities authorities_read in
    let third = records_stand true op B h.counts.additionals authorities.1 additionals additionals_read in
    let m : MessageValue = message_of h.metadata queries.0 answers.0.records authorities.0.records additionals.0 in
    let made : SectionsValue × ℕ → MessageValue × ℕ =
    λ s. (message_of h.metadata queries.0 s.0.answers.records s.0.authorities.records s.0.additionals, s.1) in
    let same : (m, additionals.1) ≡ r = ap made three ∙ same_ok _ _ is3 in
    let word : IsMessageAt B i m additionals.1 = record {
      header = h;
      queries_end = queries.1;
      answers_end = answers.1;
      authorities_end = authorities.1;
      answers = answers.0.records;
      authorities = authorities.0.records;
      additionals = third.records;
      header_stands = stands.0;
      queries_stand = subst (λ j. BackToBack (IsQueryAt B) j queries.0 queries.1) stands.1 qs.0;
      answers_stand = first.words;
      authorities_stand = second.words;
      additionals_stand = third.words;
      counts = rw (qs.1, first.counted, second.counted, third.counted) refl;
      answers_plain = first.plain;
      authorities_plain = second.plain;
      additionals_given = third.stand.given;
      signature_last = third.stand.ends;
      one_opt = omega (arith, third.stand.one);
      message = ap (message_of h.metadata queries.0 answers.0.records authorities.0.records) third.whole;
    } in
    subst (λ (x : MessageValue × ℕ). IsMessageAt B i x.0 x.1) same word))))))

pub message_again : (B : List ℕ) (i : ℕ) (m : MessageValue) (e : ℕ) → IsMessageAt B i m e → message_at B i ≡ Ok (m, e)
unfolding message_at
message_again B i m e s =
    let h = s.header in
    let op = h.metadata.op_code in
    let header : header_at B i ≡ Ok (h, i + 12) = (reads_word B i h (i + 12)).1 (s.header_stands, refl) in
    let as_many = s.counts in
    let query_count : h.counts.queries ≡ length m.queries = ap (λ c. c.queries) as_many in
    let answer_count : h.counts.answers ≡ length s.answers = ap (λ c. c.answers) as_many in
    let authority_count : h.counts.authorities ≡ length s.authorities = ap (λ c. c.authorities) as_many in
    let additional_count : h.counts.additionals ≡ length s.additionals = ap (λ c. c.additionals) as_many in
    let queries : many_at query_at (length m.queries) B (i + 12) ≡ Ok (m.queries, s.queries_end) =
    many_again (IsQueryAt B) query_at B (λ j q k. (reads_question B j q k).1)
    (i + 12) m.queries s.queries_end s.queries_stand in
    let answers = plain_read op B s.answers s.queries_end s.answers_end s.answers_stand s.answers_plain in
    let authorities = plain_read op B s.authorities s.answers_end s.authorities_end s.authorities_stand
    s.authorities_plain in
    let additionals = records_read true op B s.additionals s.authorities_end e s.additionals_stand (record {
      given = s.additionals_given;
      placed = λ outside. absurd (true≢false outside);
      alone = λ has. absurd (true≢false (sym has));
      ends = s.signature_last;
      one = omega (arith, s.one_opt);
    }) in
    let answers_kept = kept s.answers (λ k d below. (s.answers_plain k d below).placed) in
    let authorities_kept = kept s.authorities (λ k d below. (s.authorities_plain k d below).placed) in
    rw (
      header,
      query_count,
      queries,
      answer_count,
      answers,
      authority_count,
      authorities,
      additional_count,
      additionals,
      answers_kept,
      authorities_kept,
    )
    (ap (λ (x : MessageValue). Ok (x, e)) (sym s.message))

pub reads_message : (B : List ℕ) (i : ℕ) (m : MessageValue) (e : ℕ) → (message_at B i ≡ Ok (m, e)) ↔ IsMessageAt B i m e
reads_message B i m e = (message_stands B i (m, e), message_again B i m e)

-- a place begins one message at most
pub one_message : (B : List ℕ) (i : ℕ) (m n : MessageValue) (e f : ℕ) → IsMessageAt B i m e → IsMessageAt B i n f
    → (m ≡ n) × (e ≡ f)
one_message B i m n e f a b =
    let same : (m, e) ≡ (n, f) = same_ok _ _ (sym (message_again B i m e a) ∙ message_again B i n f b) in
    (ap (λ (x : MessageValue × ℕ). x.0) same, ap (λ (x : MessageValue × ℕ). x.1) same)
