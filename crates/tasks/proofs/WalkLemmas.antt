-- Walking a message, step by step.
use Rattle.std.proofs.Common.{◌≡◌, ℕ, ◌+◌, ◌-◌, ◌<◌, ◌≤◌, List, [], ◌∷◌, ◌++◌, length, take, drop, false, refl, ap}
use Rattle.std.proofs.Common.{sym, ◌∙◌, subst, arith, zero-add, length-append, Ok}
use Rattle.std.proofs.lemmas.Bool.{le-ltb}
use Rattle.std.specs.Prelude.{nat_lt}
use Rattle.base.specs.reading.Many.{many_at}
use Rattle.base.specs.reading.Names.{name_at}
use Rattle.base.specs.reading.Reading.{Fails, bytes_at}
use Rattle.base.specs.reading.Reader.{Reader, begun}
use Rattle.base.specs.declared.error.decode_error.DecodeError.{DecodeError}
use Rattle.base.proofs.reading.ManyLemmas.{many-end, many-fault, many-step, with_front}
use Rattle.base.proofs.reading.ReadLemmas.{Fails-through}
use Rattle.base_data.proofs.Tells.{same_ok}
use Rattle.base_data.specs.declared.rdata.RData.{RData}
use Rattle.rr.specs.Record.{record_at}
use Rattle.rr.specs.declared.record.Record.{Record}
use Rattle.tasks.specs.Walk.{fields_found}
use Rattle.tasks.specs.WalkWhole.{go_on, question_stop, record_stop, stop_at}
use Rattle.tasks.specs.declared.walk.RecordFound.{RecordFound}
use Rattle.tasks.specs.declared.walk.whole.Section.{Section}
use Rattle.tasks.specs.declared.walk.whole.Stop.{Stop}

-- ---- one section

-- The stops so far, and those of the section that are still to come, are all; in the one buffer.
pub record Comes (section : Section) (count counter : ℕ) (first bytes : List ℕ) (start : List Stop × ℕ) (i : ℕ)
    (stops : List Stop) : Type 0 where
  pub whole : with_front stops (many_at (stop_at section) (count - counter) bytes i) ≡ go_on section count first start
  pub same : bytes ≡ first
  pub below : counter ≤ count
  pub few : length stops ≤ length start.0 + counter

pub comes_more : {section : Section} {n c : ℕ} {first bytes : List ℕ} {start : List Stop × ℕ} {i : ℕ}
    {stops : List Stop} {x : Stop} {e : ℕ} → c < n
    → stop_at section bytes i ≡ Ok (x, e) → Comes section n c first bytes start i stops
    → Comes section n (c + 1) first bytes start e (stops ++ x ∷ [])
comes_more {section} {n} {c} {bytes = bytes} {i = i} {stops = stops} {x = x} {e = e} below is g = record {
  whole = sym (many-step (stop_at section) n c bytes i stops x e below is) ∙ g.whole;
  same = g.same;
  below = omega arith;
  few = omega (arith, g.few, length-append stops (x ∷ []));
}

pub comes_all : {section : Section} {n c : ℕ} {first bytes : List ℕ} {start : List Stop × ℕ} {i : ℕ} {stops : List Stop}
    → n ≤ c
    → Comes section n c first bytes start i stops → go_on section n first start ≡ Ok (stops, i)
comes_all {section} {n} {c} {bytes = bytes} {i = i} {stops = stops} done g =
    let none : n - c ≡ 0 = omega arith in
    sym g.whole ∙ rw none (many-end (stop_at section) bytes i stops)

pub comes_fault : {section : Section} {n c : ℕ} {first bytes : List ℕ} {start : List Stop × ℕ} {i : ℕ}
    {stops : List Stop} (f : DecodeError) → c < n
    → Fails f (stop_at section bytes i) → Comes section n c first bytes start i stops
    → Fails f (go_on section n first start)
comes_fault {section} {n} {c} {first} {bytes} {start} {i} {stops} f below fails g =
    Fails-through f (stop_at section bytes i) (go_on section n first start) (λ is. sym g.whole
    ∙ many-fault (stop_at section) n c bytes i stops f below is) fails

-- ---- one stop

-- the bytes before a place are there
pub before_is : (bytes : List ℕ) (place : ℕ) → place ≤ length bytes
    → bytes_at place bytes 0 ≡ Ok (take place (drop 0 bytes), place)
before_is bytes place inside =
    let there : nat_lt (length bytes) place ≡ false = le-ltb (length bytes) place inside in
    rw (zero-add, there) refl

module _ (bytes : List ℕ) (i : ℕ) (inside : i ≤ length bytes) where
  -- a question or a record whose name isn't read is refused with its fault
  pub question_unnamed : (f : DecodeError) → Fails f (name_at bytes i) → Fails f (question_stop bytes i)
  question_unnamed f fails =
      Fails-through f (name_at bytes i) (question_stop bytes i) (λ no. rw (before_is bytes i inside, no) refl) fails

  pub record_unread : (section : Section) (f : DecodeError) → Fails f (record_at bytes i)
      → Fails f (record_stop section bytes i)
  record_unread section f fails =
      Fails-through f (record_at bytes i) (record_stop section bytes i) (λ no. rw (before_is bytes i inside, no) refl)
      fails

  -- a record that was read stands there with its owner and its fields
  pub record_passed : (section : Section) (r : Record RData × ℕ) (e : ℕ) (found : RecordFound)
      → record_at bytes i ≡ Ok r → name_at bytes i ≡ Ok (r.0.name, e) → fields_found bytes i e ≡ Ok found
      → record_stop section bytes i ≡ Ok (record { section = section; name = r.0.name; found = found }, r.1)
  record_passed section r e found read name fields = rw (before_is bytes i inside, read, name, fields) refl

-- a new reader that passed the bytes before a place finds the fields that stand there
pub fields_there : (B again : List ℕ) (i e place at : ℕ) (fresh after : Reader) (text : List ℕ) → fresh ≡ begun again
    → B ≡ again → place ≡ i → at ≡ e → e ≤ length B
    → (bytes_at at fresh.bytes fresh.index ≡ Ok (text, after.index)) × (after.bytes ≡ fresh.bytes)
    → fields_found after.bytes place after.index ≡ fields_found B i e
fields_there B again i e place at fresh after text new whole same there inside read =
    let moved = subst (λ (r : Reader). (bytes_at at r.bytes r.index ≡ Ok (text, after.index)) × (after.bytes ≡ r.bytes))
    new read in
    let end : after.index ≡ at =
    ap (λ (x : List ℕ × ℕ). x.1) (same_ok (text, after.index) (take at (drop 0 again), at) (sym moved.0
    ∙ before_is again at (omega (arith, inside, there, ap length whole)))) in
    let bytes : after.bytes ≡ B = moved.1 ∙ sym whole in
    rw (bytes, same, end, there) refl
