-- Reading as a function of a buffer and a place: the value and the place after it, or the first fault.
use Rattle.std.specs.Prelude.{◌≡◌, ℕ, ◌+◌, List, length, take, drop, slice_index, nat_lt, if◌then◌else◌, Result, Ok}
use Rattle.std.specs.Prelude.{Err}
use Rattle.std.specs.Int.{Width, byte_len, from_be_bytes}
use Rattle.base.specs.declared.error.decode_error.DecodeError.{DecodeError}
use Rattle.base.specs.declared.error.decode_error.DecodeError.TheVariants as faults
use Rattle.base.specs.reading.Reader.{Reader}

-- what reading gives: a value and the place after it, or the first fault
abbrev pub Read : Type 0 → Type 0
Read A = Result (A × ℕ) DecodeError

-- reading goes on with what was read, or ends with its fault
infixl 10 ◌>>=◌
abbrev pub ◌>>=◌ : {A B : Type 0} → Result A DecodeError → (A → Result B DecodeError)
    → Result B DecodeError
(Ok x) >>= f = f x
(Err e) >>= f = Err e

-- the place after what was read
abbrev pub place_after : {A : Type 0} → Read A → ℕ
place_after (Ok r) = r.1
place_after (Err e) = 0

-- a call was refused: if memory runs out, or with the fault that reading meets
abbrev pub Fails : {Y : Type 0} → DecodeError → Result Y DecodeError → Type 0
Fails faults.Memory read = Unit {0}
Fails e read = read ≡ Err e

-- What a call answered, seen by view, is what reading gives, and the decoder stands after it.
abbrev pub Reads : {X Y : Type 0} → (X → Y) → Reader → Reader → Result X DecodeError
    → Result (Y × ℕ) DecodeError → Type 0
Reads view old new (Ok x) read = (read ≡ Ok (view x, new.index)) × (new.bytes ≡ old.bytes)
Reads view old new (Err e) read = Fails e read

-- the byte at a place
abbrev pub byte_at : List ℕ → ℕ → Read ℕ
byte_at bytes i = if nat_lt i (length bytes) then Ok (slice_index bytes i, i + 1)
    else Err faults.InsufficientBytes

-- the number at a place, of one, two or four bytes, the highest first
abbrev pub number_at : Width → List ℕ → ℕ → Read ℕ
number_at w bytes i = if nat_lt (length bytes) (i + byte_len w) then Err faults.InsufficientBytes
    else Ok (from_be_bytes w (take (byte_len w) (drop i bytes)), i + byte_len w)

-- `len` bytes from a place on
abbrev pub bytes_at : ℕ → List ℕ → ℕ → Read (List ℕ)
bytes_at len bytes i = if nat_lt (length bytes) (i + len) then Err faults.InsufficientBytes
    else Ok (take len (drop i bytes), i + len)
