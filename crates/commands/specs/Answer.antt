-- What a run prints, and the status that it ends with.
use Rattle.std.specs.Prelude.{◌≡◌, ◌⊎◌, ℕ, List, [], ◌∷◌, ◌++◌, codes, Option, Result, Ok, Err}
use Rattle.std.specs.Fmt.{decimal}
use Rattle.std.specs.Io.KnownBytes.{Appends}

-- what a run prints, and its status
pub record Answer : Type 0 where
  pub text : List ℕ
  pub status : ℕ

-- a command's output, with status 0
abbrev pub done : List ℕ → Answer
done text = record { text = text; status = 0 }

-- the refusal of this number
abbrev pub refused : ℕ → Answer
refused number = record { text = codes "refused " ++ decimal number ++ 10 ∷ []; status = 1 }

-- these lines, or the refusal of a number
abbrev pub answer_of : Result (List ℕ) ℕ → Answer
answer_of (Ok lines) = done lines
answer_of (Err number) = refused number

-- the words name no command
abbrev pub usage : Answer
usage = record { text = codes "usage: dnsmsg COMMAND [WORDS]" ++ 10 ∷ []; status = 2 }

-- the status where a read or a write failed
abbrev pub broken : ℕ
broken = 3

-- The answer was printed after what stood, and is the status.
pub record IsPrinted (answer : Answer) (status : ℕ) (old new : Option (List ℕ)) : Type 0 where
  pub is_status : status ≡ answer.status
  pub printed : Appends old new answer.text

-- The answer was given, or, where memory ran out, the refusal for that.
abbrev pub IsShown : Answer → ℕ → Option (List ℕ) → Option (List ℕ) → Type 0
IsShown answer status old new = IsPrinted answer status old new
    ⊎ IsPrinted (refused 3) status old new

-- An answer was given that this relation allows, or, where memory ran out, the refusal for that.
abbrev pub IsGivenBy : (Answer → Type 0) → ℕ → Option (List ℕ) → Option (List ℕ) → Type 0
IsGivenBy IsAnswer status old new =
    ((answer : Answer) × IsAnswer answer × IsPrinted answer status old new)
    ⊎ IsPrinted (refused 3) status old new
