-- What a command's call answers, against what the run is to print.
use Rattle.std.specs.Prelude.{◌≡◌, ◌⊎◌, ℕ, List, Result, Ok, Err, IsErr, String, Vec}
use Rattle.std.specs.String.{string_bytes}
use Rattle.std.specs.declared.alloc.Global.{Global}
use Rattle.hex.specs.declared.error.FromHexError.{FromHexError}
use Rattle.commands.specs.Answer.{Answer, done, refused}
use Rattle.commands.specs.Refusal.{refusal_number}
use Rattle.commands.specs.declared.refusal.Refusal.{Refusal}

-- The text of the answer, or its refusal, or that memory ran out.
abbrev pub Answers : {X : Type 0} → (X → List ℕ) → Answer → Result X Refusal → Type 0
Answers text answer (Ok x) = answer ≡ done (text x)
Answers text answer (Err refusal) = (refusal_number refusal ≡ 3)
    ⊎ (answer ≡ refused (refusal_number refusal))

-- The same, where a relation says what may be answered.
abbrev pub AnswersBy : (Answer → Type 0) → Result (String Global) Refusal → Type 0
AnswersBy IsAnswer (Ok text) = IsAnswer (done (string_bytes text))
AnswersBy IsAnswer (Err refusal) = (refusal_number refusal ≡ 3)
    ⊎ IsAnswer (refused (refusal_number refusal))

-- The bytes that hexadecimal text spells, or that it isn't hexadecimal, or memory ran out.
abbrev pub Decodes : Result (List ℕ) FromHexError → Result (Vec ℕ Global) Refusal → Type 0
Decodes spelled (Ok bytes) = spelled ≡ Ok bytes.items
Decodes spelled (Err refusal) = (refusal_number refusal ≡ 3)
    ⊎ ((refusal_number refusal ≡ 24) × IsErr spelled)
