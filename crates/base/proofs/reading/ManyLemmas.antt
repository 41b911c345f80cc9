-- Reading values one after another, step by step.
use Rattle.std.proofs.Common.{◌≡◌, ℕ, ◌+◌, ◌-◌, ◌<◌, ◌≤◌, List, [], ◌∷◌, ◌++◌, length, zero, suc, refl, ap, sym, ◌∙◌}
use Rattle.std.proofs.Common.{subst, arith, append_assoc, Result, Ok, Err}
use Rattle.std.proofs.lemmas.List.{append-nil}
use Rattle.base.specs.declared.error.decode_error.DecodeError.{DecodeError}
use Rattle.base.specs.reading.Many.{many_at}
use Rattle.base.specs.reading.Reading.{Read, Fails, ◌>>=◌}
use Rattle.base.specs.Words.{BackToBack}
use Rattle.base.specs.Words.BackToBack.{none, more}
use Rattle.base.proofs.reading.ReadLemmas.{Fails-through, bind_ok}

-- what was read before stands in front
abbrev pub with_front : {A : Type 0} → List A → Read (List A) → Read (List A)
with_front front read = read >>= λ r. Ok (front ++ r.0, r.1)

-- The values read so far, and those that are still read, are all; in the one buffer.
pub record Gathers {A : Type 0} (read : List ℕ → ℕ → Read A) (count counter : ℕ) (first bytes : List ℕ) (start i : ℕ)
    (items : List A) : Type 0 where
  pub whole : with_front items (many_at read (count - counter) bytes i) ≡ many_at read count first start
  pub same : bytes ≡ first
  pub below : counter ≤ count

one_more : {A : Type 0} (items : List A) (x : A) (r : Read (List A))
    → with_front items (r >>= λ others. Ok (x ∷ others.0, others.1)) ≡ with_front (items ++ x ∷ []) r
one_more items x (Ok r) = ap (λ ys. Ok (ys, r.1)) (sym (append_assoc items (x ∷ []) r.0))
one_more items x (Err e) = refl

-- a value that was read goes after those before it
pub many-step : {A : Type 0} (read : List ℕ → ℕ → Read A) (n c : ℕ) (bytes : List ℕ) (i : ℕ) (items : List A) (x : A)
    (e : ℕ) → c < n → read bytes i ≡ Ok (x, e)
    → with_front items (many_at read (n - c) bytes i) ≡ with_front (items ++ x ∷ [])
    (many_at read (n - (c + 1)) bytes e)
unfolding many_at
many-step read n c bytes i items x e below is =
    let next : n - c ≡ suc (n - (c + 1)) = omega arith in
    rw (next, is) (one_more items x (many_at read (n - (c + 1)) bytes e))

-- a fault ends the reading
pub many-fault : {A : Type 0} (read : List ℕ → ℕ → Read A) (n c : ℕ) (bytes : List ℕ) (i : ℕ) (items : List A)
    (f : DecodeError) → c < n → read bytes i ≡ Err f
    → with_front items (many_at read (n - c) bytes i) ≡ Err f
unfolding many_at
many-fault read n c bytes i items f below is =
    let next : n - c ≡ suc (n - (c + 1)) = omega arith in
    rw (next, is) refl

-- nothing is left to read
pub many-end : {A : Type 0} (read : List ℕ → ℕ → Read A) (bytes : List ℕ) (i : ℕ) (items : List A)
    → with_front items (many_at read 0 bytes i) ≡ Ok (items, i)
unfolding many_at
many-end read bytes i items = ap (λ ys. Ok (ys, i)) (append-nil items)

pub gathers_more : {A : Type 0} {read : List ℕ → ℕ
    → Read A} {n c : ℕ} {first bytes : List ℕ} {start i : ℕ} {items : List A} {x : A} {e : ℕ} → c < n
    → read bytes i ≡ Ok (x, e) → Gathers read n c first bytes start i items
    → Gathers read n (c + 1) first bytes start e (items ++ x ∷ [])
gathers_more {read = read} {n} {c} {bytes = bytes} {i = i} {items = items} {x = x} {e = e} below is g =
    record { whole = sym (many-step read n c bytes i items x e below is) ∙ g.whole; same = g.same; below = omega arith }

pub gathers_all : {A : Type 0} {read : List ℕ → ℕ
    → Read A} {n c : ℕ} {first bytes : List ℕ} {start i : ℕ} {items : List A} → n ≤ c
    → Gathers read n c first bytes start i items → many_at read n first start ≡ Ok (items, i)
gathers_all {read = read} {n} {c} {bytes = bytes} {i = i} {items = items} done g =
    let none : n - c ≡ 0 = omega arith in
    sym g.whole ∙ rw none (many-end read bytes i items)

pub gathers_fault : {A : Type 0} {read : List ℕ → ℕ
    → Read A} {n c : ℕ} {first bytes : List ℕ} {start i : ℕ} {items : List A} (f : DecodeError) → c < n
    → Fails f (read bytes i) → Gathers read n c first bytes start i items → Fails f (many_at read n first start)
gathers_fault {read = read} {n} {c} {first} {bytes} {start} {i} {items} f below fails g =
    Fails-through f (read bytes i) (many_at read n first start)
    (λ is. sym g.whole ∙ many-fault read n c bytes i items f below is) fails

same_ok : {A : Type 0} {x y : A} → ◌≡◌ {A = Result A DecodeError} (Ok x) (Ok y) → x ≡ y
same_ok is = cc

-- words back to back, as many as were asked for
pub record AreMany {A : Type 0} (Word : ℕ → A → ℕ → Type 0) (n i : ℕ) (r : List A × ℕ) : Type 0 where
  pub words : BackToBack Word i r.0 r.1
  pub counted : length r.0 ≡ n

-- where each value that is read has its word, values read one after another stand back to back
pub many_stand : {A : Type 0} (Word : ℕ → A → ℕ → Type 0) (read : List ℕ → ℕ → Read A) (bytes : List ℕ)
    → ((i : ℕ) (r : A × ℕ) → read bytes i ≡ Ok r → Word i r.0 r.1) → (n i : ℕ) (r : List A × ℕ)
    → many_at read n bytes i ≡ Ok r → AreMany Word n i r
unfolding many_at
many_stand Word read bytes stands zero i r is =
    let same : ([], i) ≡ r = cc in
    subst (λ x. AreMany Word 0 i x) same (record { words = none; counted = refl })
many_stand Word read bytes stands (suc n) i r is =
    let first = bind_ok (read bytes i) _ r is in
    let others = bind_ok (many_at read n bytes first.value.1) _ r first.second in
    let rest = many_stand Word read bytes stands n first.value.1 others.value others.first in
    let same : (first.value.0 ∷ others.value.0, others.value.1) ≡ r = same_ok others.second in
    subst (λ x. AreMany Word (suc n) i x) same
    (record { words = more (stands i first.value first.first) rest.words; counted = omega (arith, rest.counted) })

-- and where each word is read, words that stand back to back are read
pub many_again : {A : Type 0} (Word : ℕ → A → ℕ → Type 0) (read : List ℕ → ℕ → Read A) (bytes : List ℕ)
    → ((i : ℕ) (x : A) (e : ℕ) → Word i x e → read bytes i ≡ Ok (x, e)) → (i : ℕ) (xs : List A) (e : ℕ)
    → BackToBack Word i xs e → many_at read (length xs) bytes i ≡ Ok (xs, e)
unfolding many_at
many_again Word read bytes again i [] e none = refl
many_again Word read bytes again i (x ∷ xs) e (more {j = j} word rest) =
    let first = again i x j word in
    let others = many_again Word read bytes again j xs e rest in
    rw (first, others) refl
