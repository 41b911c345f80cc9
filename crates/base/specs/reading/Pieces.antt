-- The pieces of a name: labels up to a zero byte or a pointer (RFC 1035, 4.1.4).
use Rattle.base.specs.declared.limits.TheConstants.{MAX_LABELS, MAX_NAME}
use Rattle.std.specs.Prelude.{◌≡◌, ℕ, ◌+◌, ◌<◌, ◌≤◌, List, Ok, Err, Option, Some, None}
use Rattle.base.specs.declared.error.decode_error.DecodeError.{DecodeError}
use Rattle.base.specs.declared.error.decode_error.DecodeError.TheVariants as faults
use Rattle.base.specs.declared.name.reading.NamePiece.{NamePiece}
use Rattle.base.specs.reading.Names.{NamePart, part_at, zero_byte, label_of, pointer_to}

-- labels stand one after another, from the front up to here
pub data LabelsUpTo (bytes : List ℕ) : ℕ → Type 0 where
  no_label : LabelsUpTo bytes 0
  one_more : {i n : ℕ} → LabelsUpTo bytes i → part_at bytes i ≡ Ok (label_of n)
      → LabelsUpTo bytes (i + (1 + n))

-- what ends a piece: a pointer to this offset, or the zero byte
abbrev pub ending_of : Option ℕ → NamePart
ending_of None = zero_byte
ending_of (Some t) = pointer_to t

-- this piece stands at the front, where the labels before it took `before` bytes
pub record IsPiece (bytes : List ℕ) (before : ℕ) (piece : NamePiece) : Type 0 where
  pub labels : LabelsUpTo bytes piece.len
  pub end : part_at bytes piece.len ≡ Ok (ending_of piece.pointer)
  pub short : before + piece.len ≤ MAX_LABELS

-- after labels up to i nothing can stand, or a label by which the name gets too long
pub data RefusedAt (bytes : List ℕ) (before i : ℕ) : DecodeError → Type 0 where
  nothing_there : {e : DecodeError} → part_at bytes i ≡ Err e → RefusedAt bytes before i e
  too_long : {n : ℕ} → part_at bytes i ≡ Ok (label_of n) → MAX_NAME < before + i + n + 2
      → RefusedAt bytes before i faults.BadName

-- the piece at the front is refused
pub record IsRefusedIn (bytes : List ℕ) (before : ℕ) (e : DecodeError) : Type 0 where
  pub at : ℕ
  pub labels : LabelsUpTo bytes at
  pub short : before + at ≤ MAX_LABELS
  pub refused : RefusedAt bytes before at e
