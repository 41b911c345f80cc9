-- Items that are written one after another.
use Rattle.std.specs.Prelude.{◌≡◌, ℕ, All, ◌+◌, ◌-◌, ◌^◌, ◌<◌, ◌≤◌, max, List, [], ◌∷◌, length, Option, Some, None}
use Rattle.std.specs.Prelude.{Result, Ok, Err}
use Rattle.std.specs.Iterator.{Count, UpTo, YieldsThen}
use Rattle.base.specs.declared.error.proto_error.ProtoError.{ProtoError}
use Rattle.base.specs.declared.error.proto_error.ProtoError.TheVariants as refusals
use Rattle.base.specs.writing.State.{State}
use Rattle.base.specs.writing.Laws.{IsValid, Holds, Keeps, Writes}
use Rattle.base.specs.writing.Written.{Writing, piece_at, after, in_turn}

-- at most as many as a usize counts
abbrev pub IsCountable : Count → Type 0
IsCountable count = UpTo count (2 ^ 64 - 1)

module _ {E : Type 0} (word : E → List ℕ → ℕ → ℕ → Type 0) (plain : E → ℕ)
    (owner : E → List (List ℕ)) where
  -- each item was written after the one before it
  abbrev pub EachWritten : List E → State → State → Type 0
  EachWritten [] a b = b ≡ a
  EachWritten (x ∷ xs) a c = (b : State) × Keeps a b × Writes (word x) (plain x) (owner x) a b
      × EachWritten xs b c

-- Calls of an iterator gave items, and these were written in turn, their numbers in range and their labels those of
-- names: all of them, or those before one whose own bytes would have passed the limit, and nothing of that one.
abbrev pub EmitsAll : {E S : Type 0} → (E → Type 0) → (E → Writing) → (S → Option E → S → Type 0) → S → S
    → State → State → Result ℕ ProtoError → Type 0
EmitsAll fits written steps s t a b (Ok n) =
    (xs : List _) × YieldsThen steps s xs None t × All fits xs × (n ≡ length xs)
    × (b ≡ after (in_turn written xs) a) × (length b.bytes ≤ max (length a.bytes) a.limit)
EmitsAll fits written steps s t a b (Err (refusals.NotAllRecordsWritten n)) =
    (xs : List _) × (x : _) × YieldsThen steps s xs (Some x) t × All fits xs
    × (n ≡ length xs) × (b ≡ after (in_turn written xs) a)
    × (length b.bytes ≤ max (length a.bytes) a.limit)
    × (a.limit < length b.bytes + length (piece_at (written x) b).bytes)
EmitsAll fits written steps s t a b (Err refusals.Memory) = Unit {0}
EmitsAll fits written steps s t a b (Err _) = ⊥

-- After Ok, and where not all was written, every suffix is spelled in a buffer that holds what was written.
abbrev pub StaysValid : {X : Type 0} → State → State → Result X ProtoError → Type 0
StaysValid a b (Ok x) = (B : List ℕ) → Holds a b B → IsValid b B
StaysValid a b (Err (refusals.NotAllRecordsWritten n)) = (B : List ℕ) → Holds a b B → IsValid b B
StaysValid a b (Err _) = Unit {0}
