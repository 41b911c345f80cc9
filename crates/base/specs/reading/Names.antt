-- Reading a name: the labels and the place after them, or the first fault (RFC 1035, 4.1.4).
use Rattle.base.specs.declared.limits.TheConstants.{MAX_LABEL, MAX_NAME, POINTER_BITS}
use Rattle.std.specs.Prelude.{ℕ, zero, suc, ◌+◌, ◌-◌, ◌==◌, List, [], ◌∷◌, length, slice_index, slice_range, nat_lt}
use Rattle.std.specs.Prelude.{nat_le, if◌then◌else◌, Result, Ok, Err, true}
use Rattle.base.specs.declared.error.decode_error.DecodeError.{DecodeError}
use Rattle.base.specs.declared.error.decode_error.DecodeError.TheVariants as faults
use Rattle.base.specs.names.Labels.{NameValue}
use Rattle.base.specs.reading.Reading.{Read, ◌>>=◌}
use Rattle.base.specs.reading.Spelling.{target}

-- What stands at a place of a name: the zero byte that ends it, a label of this number of bytes, or a pointer to this
-- offset.
pub data NamePart : Type 0 where
  zero_byte : NamePart
  label_of : ℕ → NamePart
  pointer_to : ℕ → NamePart

-- what stands at a place, or why nothing can
unfoldable pub part_at : List ℕ → ℕ → Result NamePart DecodeError
part_at bytes i =
    let b = slice_index bytes i in
    if nat_le (length bytes) i then Err faults.InsufficientBytes
    else (if b == 0 then Ok zero_byte
    else (if nat_le b MAX_LABEL
    then (if nat_lt (length bytes) (i + 1 + b) then Err faults.InsufficientBytes
    else Ok (label_of b))
    else (if nat_lt b POINTER_BITS then Err faults.BadName
    else (if nat_le (length bytes) (i + 1) then Err faults.InsufficientBytes
    else Ok (pointer_to (target b (slice_index bytes (i + 1))))))))

-- labels and the place after them, or the first fault
abbrev pub Labels : Type 0
Labels = Read (List (List ℕ))

-- with this label before those that are read
abbrev pub with_label : List ℕ → Labels → Labels
with_label x read = read >>= λ r. Ok (x ∷ r.0, r.1)

-- the labels that are read, of a piece that ends here
abbrev pub ending : ℕ → Labels → Labels
ending e read = read >>= λ r. Ok (r.0, e)

-- The labels from a part on, in a piece that begins at s, where the labels before took `used` bytes; what comes after
-- the part is read by `again`.
abbrev pub after_part : (ℕ → ℕ → ℕ → Labels) → List ℕ → ℕ → ℕ → ℕ → NamePart → Labels
after_part again bytes s i used zero_byte = Ok ([], i + 1)
after_part again bytes s i used (label_of len) =
    if nat_lt MAX_NAME (used + len + 2) then Err faults.BadName
    else with_label (slice_range bytes (i + 1) (i + 1 + len))
    (again s (i + 1 + len) (used + len + 1))
after_part again bytes s i used (pointer_to t) = if nat_le s t then Err faults.BadName
    else ending (i + 2) (again t t used)

-- the labels from i on, of n parts at most, in a piece that begins at s, where the labels before took `used` bytes
unfoldable pub walk : ℕ → List ℕ → ℕ → ℕ → ℕ → Labels
walk zero bytes s i used = Err faults.BadName
walk (suc n) bytes s i used = part_at bytes i >>= after_part (walk n bytes) bytes s i used

-- The labels from i on, in a piece that begins at s, where the labels before took `used` bytes. A label takes two bytes
-- at least and a pointer goes below s, so `s + 256 - used` parts suffice.
unfoldable pub labels_at : List ℕ → ℕ → ℕ → ℕ → Labels
labels_at bytes s i used = walk (s + 256 - used) bytes s i used

-- the absolute name at a place
unfoldable pub name_at : List ℕ → ℕ → Read NameValue
name_at bytes i = labels_at bytes i i 0 >>= λ r. Ok (record { labels = r.0; absolute = true }, r.1)
