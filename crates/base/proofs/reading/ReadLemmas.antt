-- Reading against what stands.
use Rattle.std.proofs.Common.{◌≡◌, ℕ, ◌+◌, ◌<◌, List, length, take, drop, Bool, true, false, cond, refl, ap, sym, arith}
use Rattle.std.proofs.Common.{Result, Ok, Err}
use Rattle.std.proofs.lemmas.Bool.{ltb-false, ltb-true, le-ltb, lt-ltb}
use Rattle.std.specs.Prelude.{nat_lt, slice_index}
use Rattle.std.specs.Int.{Width, byte_len, from_be_bytes}
use Rattle.base.specs.declared.error.decode_error.DecodeError.{DecodeError}
use Rattle.base.specs.declared.error.decode_error.DecodeError.TheVariants as faults
use Rattle.base.specs.reading.Reading.{Fails, ◌>>=◌, byte_at, number_at}
use Rattle.base.specs.reading.Spelling.{ByteAt, anywhere}
use Rattle.base.specs.Words.{IsNumberAt}

-- what two steps read, each of them read
pub record Both {A B : Type 0} (r : Result A DecodeError) (f : A → Result B DecodeError) (y : B) : Type 0 where
  pub value : A
  pub first : r ≡ Ok value
  pub second : f value ≡ Ok y

pub bind_ok : {A B : Type 0} (r : Result A DecodeError) (f : A → Result B DecodeError) (y : B) → (r >>= f) ≡ Ok y
    → Both r f y
bind_ok (Ok x) f y is = record { value = x; first = refl; second = is }
bind_ok (Err e) f y is = cc

-- where two steps fail, the first does, or the second
pub bind_err : {A B : Type 0} (r : Result A DecodeError) (f : A → Result B DecodeError) (e : DecodeError) (P : Type 0)
    → (r >>= f) ≡ Err e → (r ≡ Err e → P)
    → ((x : A) → r ≡ Ok x → f x ≡ Err e → P) → P
bind_err (Ok x) f e P is first second = second x refl is
bind_err (Err d) f e P is first second = first (cc)

-- a test that turns away, or lets through
pub record Passed {A : Type 0} (test : Bool) (x y : A) : Type 0 where
  pub test_is : test ≡ false
  pub same : x ≡ y

pub guard_ok : {A : Type 0} (test : Bool) (e : DecodeError) (x y : A) → cond test (Err e) (Ok x) ≡ Ok y
    → Passed test x y
guard_ok true e x y is = cc
guard_ok false e x y is = record { test_is = refl; same = cc }

-- a test that lets through, or turns away
pub record Admitted {A : Type 0} (test : Bool) (x y : A) : Type 0 where
  pub test_is : test ≡ true
  pub same : x ≡ y

pub gate_ok : {A : Type 0} (test : Bool) (e : DecodeError) (x y : A) → cond test (Ok x) (Err e) ≡ Ok y
    → Admitted test x y
gate_ok true e x y is = record { test_is = refl; same = cc }
gate_ok false e x y is = cc

-- the fault where there are too few bytes
pub record IsShort (B : List ℕ) (e : ℕ) (f : DecodeError) : Type 0 where
  pub fault : f ≡ faults.InsufficientBytes
  pub short : length B < e

guard_err : {A : Type 0} (test : Bool) (e f : DecodeError) (x : A) → cond test (Err e) (Ok x) ≡ Err f
    → (test ≡ true) × (f ≡ e)
guard_err true e f x is = (refl, cc)
guard_err false e f x is = cc

gate_err : {A : Type 0} (test : Bool) (e f : DecodeError) (x : A) → cond test (Ok x) (Err e) ≡ Err f
    → (test ≡ false) × (f ≡ e)
gate_err true e f x is = cc
gate_err false e f x is = (refl, cc)

-- what is read as a number
pub record ReadsNumber (w : Width) (B : List ℕ) (i : ℕ) (r : ℕ × ℕ) : Type 0 where
  pub stands : IsNumberAt w B i r.0
  pub after : r.1 ≡ i + byte_len w

pub number_is : (w : Width) (B : List ℕ) (i : ℕ) (r : ℕ × ℕ) → number_at w B i ≡ Ok r → ReadsNumber w B i r
number_is w B i r is =
    let p = guard_ok (nat_lt (length B) (i + byte_len w)) faults.InsufficientBytes
    (from_be_bytes w (take (byte_len w) (drop i B)), i + byte_len w) r is in
    record {
      stands = record {
        inside = ltb-false (length B) (i + byte_len w) p.test_is;
        is = sym (ap (λ (x : ℕ × ℕ). x.0) p.same);
      };
      after = sym (ap (λ (x : ℕ × ℕ). x.1) p.same);
    }

pub number_short : (w : Width) (B : List ℕ) (i : ℕ) (f : DecodeError) → number_at w B i ≡ Err f
    → IsShort B (i + byte_len w) f
number_short w B i f is =
    let p = guard_err (nat_lt (length B) (i + byte_len w)) faults.InsufficientBytes f
    (from_be_bytes w (take (byte_len w) (drop i B)), i + byte_len w) is in
    record { fault = p.1; short = ltb-true (length B) (i + byte_len w) p.0 }

pub number_again : (w : Width) (B : List ℕ) (i n : ℕ) → IsNumberAt w B i n → number_at w B i ≡ Ok (n, i + byte_len w)
number_again w B i n s = rw (le-ltb (length B) (i + byte_len w) s.inside, s.is) refl

-- what is read as a byte
pub record ReadsByte (B : List ℕ) (i : ℕ) (r : ℕ × ℕ) : Type 0 where
  pub stands : ByteAt anywhere B i r.0
  pub after : r.1 ≡ i + 1

pub byte_is : (B : List ℕ) (i : ℕ) (r : ℕ × ℕ) → byte_at B i ≡ Ok r → ReadsByte B i r
byte_is B i r is =
    let p = gate_ok (nat_lt i (length B)) faults.InsufficientBytes (slice_index B i, i + 1) r is in
    record {
      stands = record {
        inside = ltb-true i (length B) p.test_is;
        is = ap (λ (x : ℕ × ℕ). x.0) p.same;
        seen = tt;
      };
      after = sym (ap (λ (x : ℕ × ℕ). x.1) p.same);
    }

pub byte_short : (B : List ℕ) (i : ℕ) (f : DecodeError) → byte_at B i ≡ Err f → IsShort B (i + 1) f
byte_short B i f is =
    let p = gate_err (nat_lt i (length B)) faults.InsufficientBytes f (slice_index B i, i + 1) is in
    record { fault = p.1; short = omega (arith, ltb-false i (length B) p.0) }

pub byte_again : (B : List ℕ) (i b : ℕ) → ByteAt anywhere B i b → byte_at B i ≡ Ok (b, i + 1)
byte_again B i b s = rw (lt-ltb i (length B) s.inside, s.is) refl

-- a refusal that is passed on
pub Fails-through : {X Y : Type 0} (e : DecodeError) (r : Result X DecodeError) (s : Result Y DecodeError)
    → (r ≡ Err e → s ≡ Err e) → Fails e r → Fails e s
Fails-through faults.Memory r s through fails = tt
Fails-through e r s through fails = through fails
