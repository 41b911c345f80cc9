-- The number of a key.
use Rattle.std.proofs.Common.{◌≡◌, ℕ, ◌+◌, ◌*◌, ◌%◌, ◌^◌, ◌<◌, ◌≤◌, refl, List, [], ◌∷◌, length, drop, arith}
use Rattle.base.specs.declared.wire.suffix_table.TheConstants.{OF_THE_NEXT}
use Rattle.base.specs.writing.State.{front_number}
use Rattle.base.specs.writing.Suffixes.{numbered}

-- with the next eight bytes
pub numbered_more : (n : ℕ) (xs : List ℕ) → 8 ≤ length xs
    → numbered n xs ≡ numbered (((n * OF_THE_NEXT) % 2 ^ 32 + front_number xs) % 2 ^ 32) (drop 8 xs)
numbered_more n (a ∷ b ∷ c ∷ d ∷ e ∷ f ∷ g ∷ h ∷ rest) long = refl
numbered_more n [] long = absurd (omega (arith, long))
numbered_more n (a ∷ []) long = absurd (omega (arith, long))
numbered_more n (a ∷ b ∷ []) long = absurd (omega (arith, long))
numbered_more n (a ∷ b ∷ c ∷ []) long = absurd (omega (arith, long))
numbered_more n (a ∷ b ∷ c ∷ d ∷ []) long = absurd (omega (arith, long))
numbered_more n (a ∷ b ∷ c ∷ d ∷ e ∷ []) long = absurd (omega (arith, long))
numbered_more n (a ∷ b ∷ c ∷ d ∷ e ∷ f ∷ []) long = absurd (omega (arith, long))
numbered_more n (a ∷ b ∷ c ∷ d ∷ e ∷ f ∷ g ∷ []) long = absurd (omega (arith, long))

-- where no eight are left
pub numbered_all : (n : ℕ) (xs : List ℕ) → length xs < 8 → numbered n xs ≡ n
numbered_all n (a ∷ b ∷ c ∷ d ∷ e ∷ f ∷ g ∷ h ∷ rest) short = absurd (omega (arith, short))
numbered_all n [] short = refl
numbered_all n (a ∷ []) short = refl
numbered_all n (a ∷ b ∷ []) short = refl
numbered_all n (a ∷ b ∷ c ∷ []) short = refl
numbered_all n (a ∷ b ∷ c ∷ d ∷ []) short = refl
numbered_all n (a ∷ b ∷ c ∷ d ∷ e ∷ []) short = refl
numbered_all n (a ∷ b ∷ c ∷ d ∷ e ∷ f ∷ []) short = refl
numbered_all n (a ∷ b ∷ c ∷ d ∷ e ∷ f ∷ g ∷ []) short = refl
