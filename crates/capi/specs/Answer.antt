-- What a call answers a caller in another language.
use Rattle.std.specs.Prelude.{◌≡◌, ◌⊎◌, ◌<◌, ◌≤◌, ◌++◌, ℕ, ℤ, List, drop, length, neg_ℤ, pos, Result, Ok, Err}
use Rattle.tasks.specs.Asked.{Asked}
use Rattle.tasks.specs.declared.refusal.Refusal.{Refusal}

-- the number that was made, or that of the refusal
abbrev pub number_made : Result ℕ Refusal → Asked ℕ
number_made (Ok n) = Ok n
number_made (Err refusal) = Err refusal.number

-- The bytes stand at the front of the caller's buffer, whose rest stays; their number is answered, and what they need.
pub record IsPut (bytes old new : List ℕ) (needed : ℕ) (result : ℤ) : Type 0 where
  pub room : length bytes ≤ length old
  pub put : new ≡ bytes ++ drop (length bytes) old
  pub needs : needed ≡ length bytes
  pub is : result ≡ pos (length bytes)

-- The caller's buffer has no room and stays; -100 is answered, and how many bytes are needed.
pub record HasNoRoom (bytes old new : List ℕ) (needed : ℕ) (result : ℤ) : Type 0 where
  pub small : length old < length bytes
  pub stays : new ≡ old
  pub needs : needed ≡ length bytes
  pub is : result ≡ neg_ℤ (pos 100)

-- The caller's buffer stays; minus the number of a refusal is answered, and that nothing is needed.
pub record IsTurnedAway (number : ℕ) (old new : List ℕ) (needed : ℕ) (result : ℤ) : Type 0 where
  pub stays : new ≡ old
  pub needs : needed ≡ 0
  pub is : result ≡ neg_ℤ (pos number)

-- what is left of bytes, or of the number of a refusal
abbrev pub IsLeft : Asked (List ℕ) → List ℕ → List ℕ → ℕ → ℤ → Type 0
IsLeft (Ok bytes) old new needed result = IsPut bytes old new needed result
    ⊎ HasNoRoom bytes old new needed result
IsLeft (Err number) old new needed result = IsTurnedAway number old new needed result

-- what is answered of a number, or of the number of a refusal
abbrev pub IsNumber : Asked ℕ → ℤ → Type 0
IsNumber (Ok n) result = result ≡ pos n
IsNumber (Err number) result = result ≡ neg_ℤ (pos number)

-- What was asked for is left, or refusal 3 because memory ran out.
abbrev pub IsAnswered : Asked (List ℕ) → List ℕ → List ℕ → ℕ → ℤ → Type 0
IsAnswered asked old new needed result = IsLeft asked old new needed result
    ⊎ IsTurnedAway 3 old new needed result

-- The number that was asked for is answered, or refusal 3 because memory ran out.
abbrev pub IsNumbered : Asked ℕ → ℤ → Type 0
IsNumbered asked result = IsNumber asked result ⊎ (result ≡ neg_ℤ (pos 3))

-- What comes of the call, by this relation, is left, or refusal 3 because memory ran out.
abbrev pub IsAnsweredBy : (Asked (List ℕ) → Type 0) → List ℕ → List ℕ → ℕ → ℤ → Type 0
IsAnsweredBy Comes old new needed result =
    ((made : Asked (List ℕ)) × Comes made × IsLeft made old new needed result)
    ⊎ IsTurnedAway 3 old new needed result
