-- Options, read one after another.
use Rattle.std.proofs.Common.{◌≡◌, ℕ, ◌+◌, ◌<◌, ◌≤◌, List, [], ◌∷◌, ◌++◌, zero, suc, refl, ap, sym, ◌∙◌, arith}
use Rattle.std.proofs.Common.{append_assoc, Result, Ok, Err}
use Rattle.std.proofs.lemmas.Bool.{le-leb, lt-leb}
use Rattle.std.specs.Int.{w16}
use Rattle.std.proofs.lemmas.List.{append-nil}
use Rattle.base.proofs.reading.ManyLemmas.{with_front}
use Rattle.base.proofs.reading.ReadLemmas.{Fails-through, bind_ok, number_is}
use Rattle.base.specs.reading.Reading.{Read, Fails, ◌>>=◌, bytes_at, number_at}
use Rattle.base.specs.declared.error.decode_error.DecodeError.{DecodeError}
use Rattle.base_data.proofs.BytesRead.{bytes_is}
use Rattle.base_data.specs.OPT.{OptionValue, opt_at, option_at, options_to}

-- an option takes a byte at least
pub option_moves : (B : List ℕ) (i : ℕ) (r : OptionValue × ℕ) → option_at B i ≡ Ok r → i < r.1
option_moves B i r is =
    let code = bind_ok (number_at w16 B i) _ r is in
    let len = bind_ok (number_at w16 B code.value.1) _ r code.second in
    let text = bind_ok (bytes_at len.value.0 B len.value.1) _ r len.second in
    let end : text.value.1 ≡ r.1 = ap (λ (x : OptionValue × ℕ). x.1) (same_ok text.second) in
    omega (
      arith,
      (number_is w16 B i code.value code.first).after,
      (number_is w16 B code.value.1 len.value len.first).after,
      (bytes_is len.value.0 B len.value.1 text.value text.first).after,
      end,
    ) where
      same_ok : {A : Type 0} {x y : A} → ◌≡◌ {A = Result A DecodeError} (Ok x) (Ok y) → x ≡ y
      same_ok same = cc

-- the options that were read, and those that are still read, are all; in the one buffer
pub record AreGathered (count end : ℕ) (first bytes : List ℕ) (start i : ℕ) (items : List OptionValue) : Type 0 where
  pub fuel : ℕ
  pub room : end ≤ i + fuel
  pub whole : with_front items (options_to fuel end bytes i) ≡ options_to count end first start
  pub same : bytes ≡ first

one_more : (items : List OptionValue) (x : OptionValue) (r : Read (List OptionValue))
    → with_front items (r >>= λ others. Ok (x ∷ others.0, others.1)) ≡ with_front (items ++ x ∷ []) r
one_more items x (Ok r) = ap (λ ys. Ok (ys, r.1)) (sym (append_assoc items (x ∷ []) r.0))
one_more items x (Err e) = refl

options_step : (n end : ℕ) (B : List ℕ) (i : ℕ) (items : List OptionValue) (x : OptionValue) (e : ℕ) → i < end
    → option_at B i ≡ Ok (x, e)
    → with_front items (options_to (suc n) end B i) ≡ with_front (items ++ x ∷ []) (options_to n end B e)
unfolding options_to
options_step n end B i items x e below is = rw (lt-leb end i below, is) (one_more items x (options_to n end B e))

options_fault : (n end : ℕ) (B : List ℕ) (i : ℕ) (items : List OptionValue) (f : DecodeError) → i < end
    → option_at B i ≡ Err f → with_front items (options_to (suc n) end B i) ≡ Err f
unfolding options_to
options_fault n end B i items f below is = rw (lt-leb end i below, is) refl

options_end : (n end : ℕ) (B : List ℕ) (i : ℕ) (items : List OptionValue) → end ≤ i
    → with_front items (options_to n end B i) ≡ Ok (items, i)
unfolding options_to
options_end zero end B i items done = ap (λ ys. Ok (ys, i)) (append-nil items)
options_end (suc n) end B i items done = rw (le-leb end i done) (ap (λ ys. Ok (ys, i)) (append-nil items))

-- some options are still looked for before the end
some_fuel : {count end : ℕ} {first bytes : List ℕ} {start i : ℕ} {items : List OptionValue} → i < end
    → (g : AreGathered count end first bytes start i items) → (n : ℕ) × (g.fuel ≡ suc n)
some_fuel {end = end} {i = i} below g = at g.fuel g.room where
  at : (n : ℕ) → end ≤ i + n → (m : ℕ) × (n ≡ suc m)
  at zero room = absurd (omega arith)
  at (suc n) room = (n, refl)

pub gathered_more : {count end : ℕ} {first bytes : List ℕ} {start i : ℕ} {items : List OptionValue} {x : OptionValue}
    {e : ℕ} → i < end
    → option_at bytes i ≡ Ok (x, e) → AreGathered count end first bytes start i items
    → AreGathered count end first bytes start e (items ++ x ∷ [])
gathered_more {end = end} {bytes = bytes} {i = i} {items = items} {x = x} {e = e} below is g =
    let fuel = some_fuel below g in
    let moved : i < e = option_moves bytes i (x, e) is in
    record {
      fuel = fuel.0;
      room = omega (arith, g.room, fuel.1, moved);
      whole = sym (options_step fuel.0 end bytes i items x e below is)
          ∙ ap (λ (n : ℕ). with_front items (options_to n end bytes i)) (sym fuel.1) ∙ g.whole;
      same = g.same;
    }

pub gathered_fault : {count end : ℕ} {first bytes : List ℕ} {start i : ℕ} {items : List OptionValue} (f : DecodeError)
    → i < end → Fails f (option_at bytes i)
    → AreGathered count end first bytes start i items → Fails f (options_to count end first start)
gathered_fault {count} {end} {first} {bytes} {start} {i} {items} f below fails g =
    let fuel = some_fuel below g in
    Fails-through f (option_at bytes i) (options_to count end first start)
    (λ is. sym g.whole ∙ ap (λ (n : ℕ). with_front items (options_to n end bytes i)) fuel.1
    ∙ options_fault fuel.0 end bytes i items f below is) fails

pub gathered_all : {count end : ℕ} {first bytes : List ℕ} {start i : ℕ} {items : List OptionValue} → end ≤ i
    → AreGathered count end first bytes start i items
    → options_to count end first start ≡ Ok (items, i)
gathered_all {end = end} {bytes = bytes} {i = i} {items = items} done g =
    sym g.whole ∙ options_end g.fuel end bytes i items done

-- the options of as many bytes are those up to their end
pub opt_at-to : (len end : ℕ) (B : List ℕ) (i : ℕ) → end ≡ i + len → opt_at len B i ≡ options_to len end B i
unfolding opt_at
opt_at-to len end B i is = ap (λ (n : ℕ). options_to len n B i) (sym is)
