-- Steps one after the other, where each leaves less.
use Rattle.std.proofs.Common.{◌≡◌, ℕ, zero, suc, ◌<◌, ◌≤◌, List, ◌∷◌, refl, ap, ◌∙◌, arith, Option, Some, None}
use Rattle.base.specs.texts.TokenList.{followed, listing}

-- each step leaves less
abbrev pub Shrinks : {S A : Type 0} → (S → Option (A × S)) → (S → ℕ) → Type 0
Shrinks {S} {A} step size = (s : S) (found : A × S) → step s ≡ Some found → size found.1 < size s

-- where nothing is left there is no step
stops : {S A : Type 0} (step : S → Option (A × S)) (size : S → ℕ) → Shrinks step size → (s : S) → size s ≤ 0
    → step s ≡ None
stops {S} {A} step size shrinks s le = go (step s) refl where
  go : (found : Option (A × S)) → step s ≡ found → found ≡ None
  go None is = refl
  go (Some found) is = absurd (let less = shrinks s found is in omega arith)

-- so many steps as the size or more give the same
enough : {S A : Type 0} (step : S → Option (A × S)) (size : S → ℕ) → Shrinks step size → (m n : ℕ) (s : S) → size s ≤ m
    → size s ≤ n → listing step m s ≡ listing step n s
unfolding listing
enough step size shrinks zero zero s le le' = refl
enough step size shrinks zero (suc n) s le le' = rw (stops step size shrinks s le) refl
enough step size shrinks (suc m) zero s le le' = rw (stops step size shrinks s le') refl
enough {S} {A} step size shrinks (suc m) (suc n) s le le' =
    go (step s) refl (λ t low low'. enough step size shrinks m n t low low') where
      go : (found : Option (A × S)) → step s ≡ found
          → ((t : S) → size t ≤ m → size t ≤ n → listing step m t ≡ listing step n t)
          → followed (listing step m) found ≡ followed (listing step n) found
      go None is again = refl
      go (Some found) is again = let less = shrinks s found is in
          ap (λ (rest : List A). found.0 ∷ rest) (again found.1 (omega arith) (omega arith))

-- the first step, and then all from where it leads
pub listing_is : {S A : Type 0} (step : S → Option (A × S)) (size : S → ℕ) → Shrinks step size → (s : S)
    → listing step (size s) s ≡ followed (λ t. listing step (size t) t) (step s)
unfolding listing
listing_is {S} {A} step size shrinks s =
    enough step size shrinks (size s) (suc (size s)) s (omega arith) (omega arith) ∙ go (step s) refl where
      go : (found : Option (A × S)) → step s ≡ found
          → followed (listing step (size s)) found ≡ followed (λ t. listing step (size t) t) found
      go None is = refl
      go (Some found) is = let less = shrinks s found is in
          ap (λ (rest : List A). found.0 ∷ rest) (enough step size shrinks (size s) (size found.1) found.1 (omega arith)
          (omega arith))
