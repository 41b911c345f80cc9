-- How refusals are handed on.
use Rattle.std.proofs.Common.{Bool, IsTrue, ◌∙◌, ◌≡◌, ◌⊎◌, false, inl, inr, ap, rules, subst, Err, Ok, ℕ}
use Rattle.tasks.specs.Asked.{Asked, ◌>>=◌}

-- a refusal comes of what refuses, or memory ran out
pub refusal_comes : {P A : Type 0} (Comes : Asked A → Type 0) (number : ℕ) → (number ≡ 3) ⊎ P
    → (P → Comes (Err number))
    → Comes (Err number) ⊎ (◌≡◌ {A = Asked A} (Err number) (Err 3))
refusal_comes Comes number (inl memory) refuses = inr (ap (λ x. Err x) memory)
refusal_comes Comes number (inr is) refuses = inl (refuses is)

module _ {A B : Type 0} (asked : Asked A) (next : A → Asked B) (number : ℕ) where
  -- what is asked for first refuses all
  pub first_refused : (number ≡ 3) ⊎ (asked ≡ Err number) → (number ≡ 3) ⊎ ((asked >>= next) ≡ Err number)
  first_refused (inl memory) = inl memory
  first_refused (inr is) = inr (ap (λ (a : Asked A). a >>= next) is)

  -- and so does what is asked for next
  pub next_refused : (x : A) → asked ≡ Ok x → (number ≡ 3) ⊎ (next x ≡ Err number)
      → (number ≡ 3) ⊎ ((asked >>= next) ≡ Err number)
  next_refused x found (inl memory) = inl memory
  next_refused x found (inr is) = inr (ap (λ (a : Asked A). a >>= next) found ∙ is)

-- what is told not to fit doesn't
pub not_fitting : (Fits : Type 0) (told : Bool) → (Fits → IsTrue told) → told ≡ false → ¬ Fits
not_fitting Fits told says is = λ fits. search (rules, subst IsTrue is (says fits))
