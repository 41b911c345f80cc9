-- That a name is compressed as far as it can be (RFC 1035, 4.1.4).
use Rattle.std.specs.Prelude.{◌≡◌, ℕ, ◌+◌, List, [], ◌∷◌, ◌++◌, ◌⊎◌, Option, Some, None, length}
use Rattle.std.specs.Prelude.{is_some, if◌then◌else◌}
use Rattle.std.specs.Int.{w16, to_be_bytes}
use Rattle.std.specs.Option.{option_or}
use Rattle.base.specs.names.Labels.{wire_of}
use Rattle.base.specs.writing.State.{Stored}
use Rattle.base.specs.writing.Written.{found_in, name}

-- the offset of the longest suffix of these labels that is stored, letters as they are
abbrev pub longest_found : List Stored → List (List ℕ) → Option ℕ
longest_found stored [] = None
longest_found stored (x ∷ xs) =
    option_or (found_in stored (x ∷ xs)) (longest_found stored xs)

-- how many bytes the labels before that suffix are, each with its length before it; all, where none is stored
abbrev pub size_before : List Stored → List (List ℕ) → ℕ
size_before stored [] = 0
size_before stored (x ∷ xs) = if is_some (found_in stored (x ∷ xs)) then 0
    else 1 + length x + size_before stored xs

-- Of labels with others after them: nothing is stored that begins with one of the first.
abbrev pub NoneLonger : List Stored → List (List ℕ) → List (List ℕ) → Type 0
NoneLonger stored [] rest = Unit {0}
NoneLonger stored (x ∷ front) rest =
    (found_in stored (x ∷ (front ++ rest)) ≡ None) × NoneLonger stored front rest

-- the bytes of labels: those before the longest suffix that was stored, and a pointer to that
pub record EndsInPointer (labels : List (List ℕ)) (stored : List Stored) (bytes : List ℕ) : Type 0 where
  pub front : List (List ℕ)
  pub label : List ℕ
  pub labels_after : List (List ℕ)
  pub offset : ℕ
  pub parts : labels ≡ front ++ (label ∷ labels_after)
  pub found : found_in stored (label ∷ labels_after) ≡ Some offset
  pub longest : NoneLonger stored front (label ∷ labels_after)
  pub are : bytes ≡ wire_of front ++ to_be_bytes w16 (49152 + offset)

-- all labels and the zero byte, where no suffix was stored
pub record IsWrittenOut (labels : List (List ℕ)) (stored : List Stored) (bytes : List ℕ) : Type 0 where
  pub none : NoneLonger stored labels []
  pub are : bytes ≡ wire_of labels ++ 0 ∷ []

-- A name ends in a pointer to the longest of its suffixes that was stored before it, where one was; and else it
-- is written out. What a name itself stores is longer than what comes after it, and so isn't found.
abbrev pub IsCompressed : List (List ℕ) → ℕ → List Stored → Type 0
IsCompressed labels at stored = EndsInPointer labels stored (name labels at stored).bytes
    ⊎ IsWrittenOut labels stored (name labels at stored).bytes
