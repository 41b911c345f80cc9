-- The first fault of a section.
use Rattle.std.proofs.Common.{◌≡◌, ◌⊎◌, ℕ, ◌<◌, Bool, true, false, cond, List, [], ◌∷◌, length, zero, suc, inl, inr}
use Rattle.std.proofs.Common.{refl, sym, ◌∙◌, subst, arith, Err, Option, Some, None}
use Rattle.std.proofs.lemmas.Bool.{and_from, and_parts, true≢false}
use Rattle.std.specs.Prelude.{◌↔◌, ◌≢◌, ◌&&◌, ◌||◌, not, is_some}
use Rattle.base.specs.Words.{BackToBack}
use Rattle.base.specs.Words.BackToBack.{none, more}
use Rattle.base.specs.declared.error.decode_error.DecodeError.{DecodeError}
use Rattle.base.proofs.reading.ReadLemmas.{bind_err}
use Rattle.base_data.specs.RData.{is_empty_data}
use Rattle.base_data.specs.declared.rdata.RData.{RData}
use Rattle.rr.specs.Record.{IsRecordAt, IsRecordFault, record_at}
use Rattle.rr.specs.declared.record.Record.{Record}
use Rattle.rr.proofs.ReadRecords.{reads_record}
use Rattle.rr.proofs.RecordFaults.{refuses_record}
use Rattle.op.specs.Fault.{IsMisplaced, IsSectionFault}
use Rattle.op.specs.Fault.IsMisplaced.{after_signature, elsewhere, empty, second_edns}
use Rattle.op.specs.Section.{HasNeededData, SectionValue, empty_section, fault_in_section, is_additional, is_opt}
use Rattle.op.specs.Section.{is_update, section_at, section_from, section_of, tested, unless_fault, section_with}
use Rattle.op.specs.declared.op_code.OpCode.{OpCode}
use Rattle.op.proofs.reading.SectionStands.{unless_ok}
use Rattle.op.proofs.reading.SectionWords.{Follow, Stand, folded, folded_section, follow_stand, from_given, from_placed}
use Rattle.op.proofs.reading.SectionWords.{given_from, placed_from, stand_follow}

-- ---- one record

-- a test in a row of tests, which fails or hands on to the next
pick : (test : Bool) (e f : DecodeError) (next : Option DecodeError) (P : Type 0) → cond test (Some e) next ≡ Some f
    → (test ≡ true → f ≡ e → P) → (test ≡ false → next ≡ Some f → P) → P
pick true e f next P is fails passes = fails refl (cc)
pick false e f next P is fails passes = passes refl is

fails_here : {X : Type 0} (test : Bool) (x y : X) → test ≡ true → cond test x y ≡ x
fails_here test x y is = rw is refl

passes_on : {X : Type 0} (test : Bool) (x y : X) → test ≡ false → cond test x y ≡ y
passes_on test x y is = rw is refl

-- a record that is empty, and the message no Update, and it no OPT record
record IsBare (a u o : Bool) : Type 0 where
  empty : a ≡ true
  update : u ≡ false
  opt : o ≡ false

bare : (a u o : Bool) → (a && not (u || o)) ≡ true → IsBare a u o
bare true false false is = record { empty = refl; update = refl; opt = refl }
bare a u o is = cc

from_bare : (a u o : Bool) → a ≡ true → u ≡ false → o ≡ false → (a && not (u || o)) ≡ true
from_bare a u o p q r = rw (p, q, r) refl

outside_of : (inside additional : Bool) → (not inside && additional) ≡ true → (inside ≡ false) × (additional ≡ true)
outside_of true additional is = cc
outside_of false additional is = (refl, is)

from_outside : (inside additional : Bool) → inside ≡ false → additional ≡ true → (not inside && additional) ≡ true
from_outside inside additional p q = rw (p, q) refl

there : {X : Type 0} (o : Option X) → is_some o ≡ true → o ≢ None
there None is = cc
there (Some x) is = λ none. cc

is_there : {X : Type 0} (o : Option X) → o ≢ None → is_some o ≡ true
is_there None some = absurd (some refl)
is_there (Some x) some = refl

absent : {X : Type 0} (o : Option X) → is_some o ≡ false → o ≡ None
absent None is = refl
absent (Some x) is = cc

is_absent : {X : Type 0} (o : Option X) → o ≡ None → is_some o ≡ false
is_absent None is = refl
is_absent (Some x) is = cc

module _ (inside : Bool) (op : OpCode) (s : SectionValue) (r : Record RData) where
  misplaced : (f : DecodeError) → fault_in_section inside op s r ≡ Some f → IsMisplaced inside op s r f
  misplaced f is =
      pick (is_empty_data r.rdata && not (is_update op || is_opt r)) _ f _ (IsMisplaced inside op s r f) is
      (λ test same. let b = bare (is_empty_data r.rdata) (is_update op) (is_opt r) test in
      subst (IsMisplaced inside op s r) (sym same) (empty b.empty b.update b.opt))
      (λ test1 is1.
      let given : HasNeededData op r = given_from (is_empty_data r.rdata) (is_update op || is_opt r) test1 in
      pick (is_some s.signature) _ f _ (IsMisplaced inside op s r f) is1
      (λ test same. subst (IsMisplaced inside op s r) (sym same) (after_signature given (there s.signature test)))
      (λ test2 is2.
      let unsigned = absent s.signature test2 in
      pick (not inside && is_additional r) _ f _ (IsMisplaced inside op s r f) is2
      (λ test same. let p = outside_of inside (is_additional r) test in
      subst (IsMisplaced inside op s r) (sym same) (elsewhere given unsigned p.0 p.1))
      (λ test3 is3.
      pick (is_some s.edns && is_opt r) _ f None (IsMisplaced inside op s r f) is3
      (λ test same. let p = and_parts (is_some s.edns) (is_opt r) test in
      subst (IsMisplaced inside op s r) (sym same)
      (second_edns given unsigned (placed_from inside (is_additional r) test3) (there s.edns p.0) p.1))
      (λ test4 is4. cc))))

  not_bare : HasNeededData op r → (is_empty_data r.rdata && not (is_update op || is_opt r)) ≡ false
  not_bare given = from_given (is_empty_data r.rdata) (is_update op || is_opt r) given

  refused : (f : DecodeError) → IsMisplaced inside op s r f → fault_in_section inside op s r ≡ Some f
  refused f (empty is update opt) = fails_here _ _ _
      (from_bare (is_empty_data r.rdata) (is_update op) (is_opt r) is update opt)
  refused f (after_signature given signed) =
      passes_on _ _ _ (not_bare given) ∙ fails_here _ _ _ (is_there s.signature signed)
  refused f (elsewhere given unsigned outside additional) =
      passes_on _ _ _ (not_bare given) ∙ passes_on _ _ _ (is_absent s.signature unsigned)
      ∙ fails_here _ _ _ (from_outside inside (is_additional r) outside additional)
  refused f (second_edns given unsigned placed edns opt) =
      passes_on _ _ _ (not_bare given) ∙ passes_on _ _ _ (is_absent s.signature unsigned)
      ∙ passes_on _ _ _ (from_placed inside (is_additional r) placed)
      ∙ fails_here _ _ _ (and_from (is_some s.edns) (is_opt r) (is_there s.edns edns) opt)

-- ---- the records before it

-- what stands after a section is no record, or one that may not stand there
abbrev Stops : Bool → OpCode → SectionValue → List ℕ → ℕ → DecodeError → Type 0
Stops inside op s B place f = IsRecordFault B place f ⊎
    ((r : Record RData) × (e : ℕ) × IsRecordAt B place r e × (fault_in_section inside op s r ≡ Some f))

-- the records that stand after a section, and what stops them
record Before (inside : Bool) (op : OpCode) (s : SectionValue) (B : List ℕ) (n i : ℕ) (f : DecodeError) : Type 0 where
  records : List (Record RData)
  place : ℕ
  words : BackToBack (IsRecordAt B) i records place
  fewer : length records < n
  follow : Follow inside op s records
  fault : Stops inside op (folded s records) B place f

unless_err : (o : Option DecodeError) (s : SectionValue) (f : DecodeError) → unless_fault o s ≡ Err f → o ≡ Some f
unless_err None s f is = cc
unless_err (Some g) s f is = cc

module _ (inside : Bool) (op : OpCode) (B : List ℕ) where
  stopped : (n i : ℕ) (s : SectionValue) (f : DecodeError) → section_from inside op s n B i ≡ Err f
      → Before inside op s B n i f
  unfolding section_from
  stopped zero i s f is = cc
  stopped (suc n) i s f is =
      bind_err (record_at B i) _ f (Before inside op s B (suc n) i f) is
      (λ e. record {
        records = [];
        place = i;
        words = none;
        fewer = omega arith;
        follow = tt;
        fault =
            inl ((refuses_record B i f).0 e);
      })
      (λ next next_read is1.
      let word = (reads_record B i next.0 next.1).0 next_read in
      bind_err (tested inside op s next.0) _ f (Before inside op s B (suc n) i f) is1
      (λ e. record {
        records = [];
        place = i;
        words = none;
        fewer = omega arith;
        follow = tt;
        fault =
            inr (next.0, next.1, word, unless_err (fault_in_section inside op s next.0) (section_with s next.0) f e);
      })
      (λ taken taken_is is2.
      let passes = unless_ok (fault_in_section inside op s next.0) (section_with s next.0) taken taken_is in
      let rest = stopped n next.1 taken f is2 in
      let after : Before inside op (section_with s next.0) B n next.1 f =
      subst (λ t. Before inside op t B n next.1 f) (sym passes.same) rest in
      record {
        records = next.0 ∷ after.records;
        place = after.place;
        words = more word after.words;
        fewer =
            omega (arith, after.fewer);
        follow = (passes.passes, after.follow);
        fault = after.fault;
      }))

  stops : (rs : List (Record RData)) (n i place : ℕ) (s : SectionValue) (f : DecodeError)
      → BackToBack (IsRecordAt B) i rs place → length rs < n → Follow inside op s rs
      → Stops inside op (folded s rs) B place f
      → section_from inside op s n B i ≡ Err f
  unfolding section_from
  stops [] zero i place s f words fewer follow fault = absurd (omega (arith, fewer))
  stops (r ∷ rs) zero i place s f words fewer follow fault = absurd (omega (arith, fewer))
  stops [] (suc n) i place s f none fewer follow (inl fault) = rw ((refuses_record B i f).1 fault) refl
  stops [] (suc n) i place s f none fewer follow (inr (r, e, word, fails)) =
      rw ((reads_record B i r e).1 word, fails) refl
  stops (r ∷ rs) (suc n) i place s f (more {j = j} word rest) fewer follow fault =
      let next = (reads_record B i r j).1 word in
      let others = stops rs n j place (section_with s r) f rest (omega (arith, fewer)) follow.1 fault in
      rw (next, follow.0, others) refl

  -- ---- the section

  section_fault : (n i : ℕ) (f : DecodeError) → section_at inside op n B i ≡ Err f → IsSectionFault inside op n B i f
  section_fault n i f is =
      let b = stopped n i empty_section f is in
      let stand = follow_stand inside op b.records empty_section b.follow in
      let fault = subst (λ t. Stops inside op t B b.place f) (folded_section inside op b.records b.follow) b.fault in
      record {
        number = length b.records;
        before = section_of b.records;
        place = b.place;
        stands =
            record {
              records = b.records;
              words = b.words;
              counted = refl;
              given = stand.given;
              placed = stand.placed;
              signature_last = stand.ends;
              one_opt = omega (arith, stand.one);
              section = refl;
            };
        fewer = b.fewer;
        fault = told (section_of b.records) b.place fault;
      }
    where
      told : (s : SectionValue) (place : ℕ) → Stops inside op s B place f
          → IsRecordFault B place f ⊎ ((r : Record RData) × (e : ℕ) × IsRecordAt B place r e
          × IsMisplaced inside op s r f)
      told s place (inl fault) = inl fault
      told s place (inr (r, e, word, fails)) = inr (r, e, word, misplaced inside op s r f fails)

  section_fails : (n i : ℕ) (f : DecodeError) → IsSectionFault inside op n B i f → section_at inside op n B i ≡ Err f
  section_fails n i f w =
      let s = w.stands in
      let stand : Stand inside op false false s.records = record {
        given = s.given;
        placed = s.placed;
        alone = λ has. absurd (true≢false (sym has));
        ends = s.signature_last;
        one = omega (arith, s.one_opt);
      } in
      let follow = stand_follow inside op s.records empty_section stand in
      let same : w.before ≡ folded empty_section s.records =
      s.section ∙ sym (folded_section inside op s.records follow) in
      stops s.records n i w.place empty_section f s.words (omega (arith, s.counted, w.fewer)) follow
      (subst (λ t. Stops inside op t B w.place f) same (told w.before w.place w.fault))
    where
      told : (s : SectionValue) (place : ℕ) → IsRecordFault B place f ⊎
          ((r : Record RData) × (e : ℕ) × IsRecordAt B place r e × IsMisplaced inside op s r f)
          → Stops inside op s B place f
      told s place (inl fault) = inl fault
      told s place (inr (r, e, word, fails)) = inr (r, e, word, refused inside op s r f fails)

pub refuses_section : (inside : Bool) (op : OpCode) (n : ℕ) (B : List ℕ) (i : ℕ) (f : DecodeError)
    → (section_at inside op n B i ≡ Err f) ↔ IsSectionFault inside op n B i f
refuses_section inside op n B i f = (section_fault inside op B n i f, section_fails inside op B n i f)
