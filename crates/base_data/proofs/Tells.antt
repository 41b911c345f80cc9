-- What a reading answers, and where: what stands there and nothing else. No reading is refused because memory ran out.
use Rattle.std.proofs.Common.{◌≡◌, ◌≢◌, ℕ, [], ◌+◌, ◌≤◌, Bool, true, false, cond, List, length, take, drop, refl, ap}
use Rattle.std.proofs.Common.{sym, ◌∙◌, arith, Result, Ok, Err}
use Rattle.std.proofs.lemmas.Bool.{le-ltb}
use Rattle.std.proofs.lemmas.List.{length-take, length-drop}
use Rattle.std.specs.Int.{Width}
use Rattle.std.specs.Prelude.{nat_lt}
use Rattle.base.proofs.reading.ReadLemmas.{bind_ok, bind_err, number_is, number_again, number_short}
use Rattle.base.proofs.reading.ReadingLemmas.{name_is, name_fault, name_again}
use Rattle.base.specs.reading.Faults.{IsFaulty, after_label, after_pointer}
use Rattle.base.specs.reading.Names.{name_at}
use Rattle.base.specs.reading.Reading.{Read, ◌>>=◌, bytes_at, number_at}
use Rattle.base.specs.reading.Spelling.{IsNameAt}
use Rattle.base.specs.Words.{Bytes, Number, Stands}
use Rattle.base.specs.declared.error.decode_error.DecodeError.{DecodeError}
use Rattle.base.specs.declared.error.decode_error.DecodeError.TheVariants as faults
use Rattle.base_data.proofs.BytesRead.{bytes_is}

pub record Tells {X : Type 0} (read : Result X DecodeError) (Is : X → Type 0) : Type 0 where
  pub says : (x : X) → read ≡ Ok x → Is x
  pub again : (x : X) → Is x → read ≡ Ok x
  pub fault : read ≡ Err faults.Memory → ⊥

pub same_ok : {X : Type 0} (x y : X) → ◌≡◌ {A = Result X DecodeError} (Ok x) (Ok y) → x ≡ y
same_ok x y is = cc

pub tells_ok : {X : Type 0} (x : X) → Tells (Ok x) (λ y. x ≡ y)
tells_ok {X} x = record {
  says = λ y is. same_ok x y is;
  again = λ y is. ap (λ (z : X). ok z) is;
  fault = λ is. cc;
} where
  ok : X → Result X DecodeError
  ok z = Ok z

-- a step, and those after it
pub tells_then : {X Y : Type 0} {r : Result X DecodeError} {f : X → Result Y DecodeError} {P : X → Type 0} {Q : X → Y
    → Type 0} → Tells r P
    → ((x : X) → Tells (f x) (Q x)) → Tells (r >>= f) (λ y. (x : X) × P x × Q x y)
tells_then {X} {Y} {r} {f} {P} {Q} first others = record {
  says = λ y is. let both = bind_ok r f y is in
      (both.value, first.says both.value both.first, (others both.value).says y both.second);
  again = λ y is. ap (λ (s : Result X DecodeError). s >>= f) (first.again is.0 is.1) ∙ (others is.0).again y is.2;
  fault = λ is. bind_err r f faults.Memory ⊥ is first.fault (λ x _ after. (others x).fault after);
}

-- the same, said otherwise
pub tells_same : {X : Type 0} {r : Result X DecodeError} {P Q : X → Type 0} → Tells r P → ((x : X) → P x → Q x)
    → ((x : X) → Q x → P x) → Tells r Q
tells_same t to from = record {
  says = λ x is. to x (t.says x is);
  again = λ x is. t.again x (from x is);
  fault = t.fault;
}

pub tells_number : (w : Width) (B : List ℕ) (i : ℕ) → Tells (number_at w B i) (λ r. Number w r.0 B i r.1)
tells_number w B i = record {
  says = λ r is. let s = number_is w B i r is in (s.stands, s.after);
  again = λ r is. number_again w B i r.0 is.0 ∙ ap (λ (e : ℕ). ok (r.0, e)) (sym is.1);
  fault = λ is. let s = number_short w B i faults.Memory is in let f = s.fault in cc;
} where
  ok : ℕ × ℕ → Read ℕ
  ok r = Ok r

never_memory : {B : List ℕ} {s i used : ℕ} {f : DecodeError} → IsFaulty B s i used f → f ≡ faults.Memory → ⊥
never_memory (after_label _ _ _ _ _ rest) is = never_memory rest is
never_memory (after_pointer _ _ _ _ rest) is = never_memory rest is
never_memory other is = cc

pub tells_name : (B : List ℕ) (i : ℕ) → Tells (name_at B i) (λ r. IsNameAt B i r.0 r.1)
tells_name B i = record {
  says = λ r is. name_is B i r.0 r.1 is;
  again = λ r is. name_again B i r.0 r.1 is;
  fault = λ is. never_memory (name_fault B i faults.Memory is) refl;
}

-- as many bytes stand here
pub record AreBytesAt (len : ℕ) (B : List ℕ) (i : ℕ) (r : List ℕ × ℕ) : Type 0 where
  pub word : Bytes r.0 B i r.1
  pub counted : length r.0 ≡ len
  pub inside : i + len ≤ length B

bytes_fault : {X : Type 0} (short : Bool) (x : X) → cond short (Err faults.InsufficientBytes) (Ok x) ≡ Err faults.Memory
    → ⊥
bytes_fault true x is = cc
bytes_fault false x is = cc

pub tells_bytes : (len : ℕ) (B : List ℕ) (i : ℕ) → Tells (bytes_at len B i) (AreBytesAt len B i)
tells_bytes len B i = record {
  says = λ r is. let s = bytes_is len B i r is in
      record {
        word = (
          record { is = ap (λ (n : ℕ). take n (drop i B)) s.counted ∙ sym s.is },
          omega (arith, s.after, s.counted),
        );
        counted = s.counted;
        inside = s.inside;
      };
  again = λ r is.
      let front : take len (drop i B) ≡ r.0 = ap (λ (n : ℕ). take n (drop i B)) (sym is.counted) ∙ is.word.0.is in
      let end : i + len ≡ r.1 = omega (arith, is.word.1, is.counted) in
      rw (le-ltb (length B) (i + len) is.inside, front, end) refl;
  fault = λ is. bytes_fault (nat_lt (length B) (i + len)) (take len (drop i B), i + len) is;
}

-- where bytes stand there is room for them
pub room_for : (xs B : List ℕ) (i : ℕ) → Stands xs B i → 1 ≤ length xs → i + length xs ≤ length B
room_for xs B i s some = omega (arith, ap length s.is, length-take (length xs) (drop i B), length-drop i B)

pub room_after : (xs B : List ℕ) (i : ℕ) → Stands xs B i → i ≤ length B → i + length xs ≤ length B
room_after xs B i s inside = omega (arith, ap length s.is, length-take (length xs) (drop i B), length-drop i B)

-- the same of a reading that ends at a place
pub record Fills {X : Type 0} (read : Read X) (end : ℕ) (Is : X → Type 0) : Type 0 where
  pub says : (x : X) → read ≡ Ok (x, end) → Is x
  pub again : (x : X) → Is x → read ≡ Ok (x, end)
  pub fault : read ≡ Err faults.Memory → ⊥

pub fills_from : {X : Type 0} {read : Read X} {P : X × ℕ → Type 0} (end : ℕ) → Tells read P
    → Fills read end (λ x. P (x, end))
fills_from end t = record { says = λ x is. t.says (x, end) is; again = λ x is. t.again (x, end) is; fault = t.fault }

pub fills_same : {X : Type 0} {read : Read X} {end : ℕ} {P Q : X → Type 0} → Fills read end P → ((x : X) → P x → Q x)
    → ((x : X) → Q x → P x) → Fills read end Q
fills_same t to from = record {
  says = λ x is. to x (t.says x is);
  again = λ x is. t.again x (from x is);
  fault =
      t.fault;
}

-- bytes, one at least, fill as many
pub fills_bytes : (len : ℕ) (B : List ℕ) (i : ℕ) → 1 ≤ len
    → Fills (bytes_at len B i) (i + len) (λ x. Bytes x B i (i + len) × (x ≢ []))
fills_bytes len B i some = fills_same (fills_from (i + len) (tells_bytes len B i))
    (λ x is. (is.word, λ none. absurd (omega (arith, is.counted, ap length none))))
    (λ x is. let counted : length x ≡ len = omega (arith, is.0.1) in
    record { word = is.0; counted = counted; inside = omega (arith, room_for x B i is.0.0 (omega arith), counted) })
