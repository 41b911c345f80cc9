-- The first fault of a message.
use Rattle.std.proofs.Common.{◌≡◌, ℕ, ◌+◌, ◌<◌, true, false, List, [], ◌∷◌, length, zero, suc, refl, sym, subst, arith}
use Rattle.std.proofs.Common.{Err}
use Rattle.std.specs.Prelude.{◌↔◌}
use Rattle.base.specs.reading.Many.{many_at}
use Rattle.base.specs.Words.{BackToBack}
use Rattle.base.specs.Words.BackToBack.{none, more}
use Rattle.base.specs.declared.error.decode_error.DecodeError.{DecodeError}
use Rattle.base.proofs.reading.ReadLemmas.{bind_err}
use Rattle.op.specs.Fault.{HasQuestions, IsMessageFault, IsQueriesFault}
use Rattle.op.specs.Fault.IsMessageFault.{cut_header, in_additionals, in_answers, in_authorities, in_queries}
use Rattle.op.specs.Header.{header_at}
use Rattle.op.specs.Message.{message_at}
use Rattle.op.specs.Query.{IsQueryAt, IsQueryFault, query_at}
use Rattle.op.specs.Section.{section_at, sections_at}
use Rattle.op.specs.declared.header.Header.{Header}
use Rattle.op.specs.declared.query.Query.{Query}
use Rattle.op.proofs.reading.HeaderReading.{faults_short, reads_word}
use Rattle.op.proofs.reading.MessageStands.{reads_questions, reads_section}
use Rattle.op.proofs.reading.QueryLemmas.{reads_question, refuses_question}
use Rattle.op.proofs.reading.SectionFaults.{refuses_section}

module _ (B : List ℕ) where
  -- ---- questions

  queries_fault : (n i : ℕ) (f : DecodeError) → many_at query_at n B i ≡ Err f → IsQueriesFault n B i f
  unfolding many_at
  queries_fault zero i f is = cc
  queries_fault (suc n) i f is =
      bind_err (query_at B i) _ f (IsQueriesFault (suc n) B i f) is
      (λ e. record { queries = []; place = i; words = none; fewer = omega arith; fault = (refuses_question B i f).0 e })
      (λ first first_read is1.
      bind_err (many_at query_at n B first.1) _ f (IsQueriesFault (suc n) B i f) is1
      (λ e. let rest = queries_fault n first.1 f e in
      record {
        queries = first.0 ∷ rest.queries;
        place = rest.place;
        words = more ((reads_question B i first.0 first.1).0 first_read) rest.words;
        fewer = omega (arith, rest.fewer);
        fault = rest.fault;
      })
      (λ others others_read is2. cc))

  queries_fail : (qs : List Query) (n i place : ℕ) (f : DecodeError) → BackToBack (IsQueryAt B) i qs place
      → length qs < n → IsQueryFault B place f → many_at query_at n B i ≡ Err f
  unfolding many_at
  queries_fail [] zero i place f words fewer fault = absurd (omega (arith, fewer))
  queries_fail (q ∷ qs) zero i place f words fewer fault = absurd (omega (arith, fewer))
  queries_fail [] (suc n) i place f none fewer fault = rw ((refuses_question B i f).1 fault) refl
  queries_fail (q ∷ qs) (suc n) i place f (more {j = j} word rest) fewer fault =
      let first = (reads_question B i q j).1 word in
      let others = queries_fail qs n j place f rest (omega (arith, fewer)) fault in
      rw (first, others) refl

  -- ---- the message

  module _ (i : ℕ) where
    sections_fault : (h : Header) (j : ℕ) (f : DecodeError) → HasQuestions B i h j
        → sections_at h.metadata.op_code h.counts B j ≡ Err f → IsMessageFault B i f
    sections_fault h j f asked is =
        let op = h.metadata.op_code in
        bind_err (section_at false op h.counts.answers B j) _ f (IsMessageFault B i f) is
        (λ e. in_answers asked ((refuses_section false op h.counts.answers B j f).0 e))
        (λ answers answers_read is1.
        let first = (reads_section false op h.counts.answers B j answers.0 answers.1).0 answers_read in
        bind_err (section_at false op h.counts.authorities B answers.1) _ f (IsMessageFault B i f) is1
        (λ e. in_authorities asked first ((refuses_section false op h.counts.authorities B answers.1 f).0 e))
        (λ authorities authorities_read is2.
        let second = (reads_section false op h.counts.authorities B answers.1 authorities.0 authorities.1).0
        authorities_read in
        bind_err (section_at true op h.counts.additionals B authorities.1) _ f (IsMessageFault B i f) is2
        (λ e. in_additionals asked first second ((refuses_section true op h.counts.additionals B authorities.1 f).0 e))
        (λ additionals additionals_read is3. cc)))

    message_fault : (f : DecodeError) → message_at B i ≡ Err f → IsMessageFault B i f
    unfolding message_at
    message_fault f is =
        bind_err (header_at B i) _ f (IsMessageFault B i f) is
        (λ e. let short = (faults_short B i f).0 e in subst (IsMessageFault B i) (sym short.0) (cut_header short.1))
        (λ header header_read is1.
        let h = header.0 in
        let stands = (reads_word B i h header.1).0 header_read in
        bind_err (many_at query_at h.counts.queries B header.1) _ f (IsMessageFault B i f) is1
        (λ e. in_queries stands.0 (subst (λ k. IsQueriesFault h.counts.queries B k f) stands.1
        (queries_fault h.counts.queries header.1 f e)))
        (λ queries queries_read is2.
        let words = (reads_questions h.counts.queries B header.1 queries.0 queries.1).0 queries_read in
        let asked : HasQuestions B i h queries.1 = record {
          header_stands = stands.0;
          queries = queries.0;
          queries_stand = subst (λ k. BackToBack (IsQueryAt B) k queries.0 queries.1) stands.1 words.0;
          counted = words.1;
        } in
        bind_err (sections_at h.metadata.op_code h.counts B queries.1) _ f (IsMessageFault B i f) is2
        (λ e. sections_fault h queries.1 f asked e)
        (λ sections sections_read is3. cc)))

    -- what stands after a header and its questions is refused as the message is
    asked_fails : (h : Header) (j : ℕ) (f : DecodeError) → HasQuestions B i h j
        → sections_at h.metadata.op_code h.counts B j ≡ Err f → message_at B i ≡ Err f
    unfolding message_at
    asked_fails h j f asked is =
        let header = (reads_word B i h (i + 12)).1 (asked.header_stands, refl) in
        let queries = (reads_questions h.counts.queries B (i + 12) asked.queries j).1
        (asked.queries_stand, asked.counted) in
        rw (header, queries, is) refl

    message_fails : (f : DecodeError) → IsMessageFault B i f → message_at B i ≡ Err f
    unfolding message_at
    message_fails f (cut_header short) = rw ((faults_short B i f).1 (refl, short)) refl
    message_fails f (in_queries {h = h} header_stands w) =
        let header = (reads_word B i h (i + 12)).1 (header_stands, refl) in
        let queries = queries_fail w.queries h.counts.queries (i + 12) w.place f w.words w.fewer w.fault in
        rw (header, queries) refl
    message_fails f (in_answers {h = h} {j = j} asked w) =
        let answers = (refuses_section false h.metadata.op_code h.counts.answers B j f).1 w in
        asked_fails h j f asked (rw answers refl)
    message_fails f (in_authorities {h = h} {j = j} {k = k} {answers = a} asked first w) =
        let answers = (reads_section false h.metadata.op_code h.counts.answers B j a k).1 first in
        let authorities = (refuses_section false h.metadata.op_code h.counts.authorities B k f).1 w in
        asked_fails h j f asked (rw (answers, authorities) refl)
    message_fails f (in_additionals {h = h} {j = j} {k = k} {l = l} {answers = a} {authorities =
        b} asked first second w) =
        let answers = (reads_section false h.metadata.op_code h.counts.answers B j a k).1 first in
        let authorities = (reads_section false h.metadata.op_code h.counts.authorities B k b l).1 second in
        let additionals = (refuses_section true h.metadata.op_code h.counts.additionals B l f).1 w in
        asked_fails h j f asked (rw (answers, authorities, additionals) refl)

pub refuses_questions : (n : ℕ) (B : List ℕ) (i : ℕ) (f : DecodeError)
    → (many_at query_at n B i ≡ Err f) ↔ IsQueriesFault n B i f
refuses_questions n B i f = (queries_fault B n i f, λ w. queries_fail B w.queries n i w.place f w.words w.fewer w.fault)

pub refuses_message : (B : List ℕ) (i : ℕ) (f : DecodeError) → (message_at B i ≡ Err f) ↔ IsMessageFault B i f
refuses_message B i f = (message_fault B i f, message_fails B i f)
