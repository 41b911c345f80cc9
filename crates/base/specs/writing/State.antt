-- An encoder as its contracts see it.
use Rattle.base.specs.declared.limits.TheConstants.{POINTER_LIMIT}
use Rattle.std.specs.Prelude.{ℕ, ◌+◌, ◌%◌, ◌^◌, List, [], ◌∷◌, ◌++◌, length, take, drop, nat_le, if◌then◌else◌}
use Rattle.std.specs.Int.{w32, from_le_bytes}

-- a suffix of a name, and where it is spelled
pub record Stored : Type 0 where
  pub labels : List (List ℕ)
  pub offset : ℕ

-- The borrow that is written through, what was written, the limit in bytes, and the suffixes that a
-- later name may point to, oldest first.
pub record State : Type 0 where
  pub buffer : ℕ
  pub bytes : List ℕ
  pub limit : ℕ
  pub suffixes : List Stored

-- with these bytes after what was written
abbrev pub appended : List ℕ → State → State
appended xs s = record s { bytes = s.bytes ++ xs }

-- with the bytes xs in the place of `length xs` bytes from `start` on
abbrev pub overwritten : ℕ → List ℕ → State → State
overwritten start xs s =
    record s { bytes = take start s.bytes ++ (xs ++ drop (start + length xs) s.bytes) }

-- cut back to `len` bytes and `count` suffixes
abbrev pub cut : ℕ → ℕ → State → State
cut len count s = record s { bytes = take len s.bytes; suffixes = take count s.suffixes }

-- with a suffix that was written at a place, unless the place is too far for a pointer (RFC 1035, 4.1.4)
abbrev pub stored : List (List ℕ) → ℕ → State → State
stored labels at s = if nat_le POINTER_LIMIT at then s
    else record s { suffixes = s.suffixes ++ record { labels = labels; offset = at } ∷ [] }

-- the first four bytes and the next four as numbers, the lowest first, added in four bytes; the first four where there
-- are fewer than eight, and two or three where there are no more
abbrev pub front_number : List ℕ → ℕ
front_number (a ∷ b ∷ c ∷ d ∷ e ∷ f ∷ g ∷ h ∷ rest) =
    (from_le_bytes w32 (a ∷ b ∷ c ∷ d ∷ []) + from_le_bytes w32 (e ∷ f ∷ g ∷ h ∷ [])) % 2 ^ 32
front_number (a ∷ b ∷ c ∷ d ∷ rest) = from_le_bytes w32 (a ∷ b ∷ c ∷ d ∷ [])
front_number (a ∷ b ∷ c ∷ []) = from_le_bytes w32 (a ∷ b ∷ c ∷ 0 ∷ [])
front_number (a ∷ b ∷ []) = from_le_bytes w32 (a ∷ b ∷ 0 ∷ 0 ∷ [])
front_number bytes = 0
