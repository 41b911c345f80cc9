-- What was found in a message, as a caller is left with it.
use Rattle.std.specs.Prelude.{◌≡◌, ◌⊎◌, ℕ, ℤ, neg_ℤ, pos, Ok, Err}
use Rattle.tasks.specs.Asked.{Asked}

-- What was found is filled in, and the place after it answered; or it stays, and minus the number of a refusal is
-- answered.
abbrev pub IsFilled : {P : Type 0} → Asked (P × ℕ) → P → P → ℤ → Type 0
IsFilled (Ok found) old new result = (new ≡ found.0) × (result ≡ pos found.1)
IsFilled (Err number) old new result = (new ≡ old) × (result ≡ neg_ℤ (pos number))

-- So it is, or memory ran out.
abbrev pub IsFound : {P : Type 0} → Asked (P × ℕ) → P → P → ℤ → Type 0
IsFound asked old new result = IsFilled asked old new result
    ⊎ ((new ≡ old) × (result ≡ neg_ℤ (pos 3)))
