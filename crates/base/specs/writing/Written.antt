-- What is written of a value: a function of the place where it begins and of the suffixes stored until then
-- (RFC 1035, 4.1 and 4.1.4).
use Rattle.base.specs.declared.limits.TheConstants.{POINTER_LIMIT}
use Rattle.std.specs.Prelude.{◌≡◌, ℕ, ◌+◌, ◌<◌, List, [], ◌∷◌, ◌++◌, length, Option, Some, None, Result, Ok, Err}
use Rattle.std.specs.Prelude.{nat_le, if◌then◌else◌}
use Rattle.std.specs.Int.{w16, to_be_bytes}
use Rattle.base.specs.declared.error.proto_error.ProtoError.{ProtoError}
use Rattle.base.specs.declared.error.proto_error.ProtoError.TheVariants as refusals
use Rattle.base.specs.names.Labels.{wire_of}
use Rattle.base.specs.names.NameOrder.{same_labels}
use Rattle.base.specs.writing.State.{State, Stored}

-- the bytes that are written, and all suffixes that are stored afterwards
pub record Piece : Type 0 where
  pub bytes : List ℕ
  pub suffixes : List Stored

-- What is written, by the place where it begins and the suffixes stored until then. The bytes before that
-- place don't matter, and no limit does.
abbrev pub Writing : Type 0
Writing = ℕ → List Stored → Piece

-- what is written next in a state
abbrev pub piece_at : Writing → State → Piece
piece_at f s = f (length s.bytes) s.suffixes

-- the state after it was written
abbrev pub after : Writing → State → State
after f s = record s { bytes = s.bytes ++ (piece_at f s).bytes; suffixes = (piece_at f s).suffixes }

-- After Ok exactly this was written. It was refused with the error for the limit only where its own bytes would
-- pass it, and else if memory runs out.
abbrev pub Exactly : {X : Type 0} → Writing → State → State → Result X ProtoError → Type 0
Exactly f a b (Ok x) = b ≡ after f a
Exactly f a b (Err refusals.MaxBufferSizeExceeded) = a.limit
    < length a.bytes + length (piece_at f a).bytes
Exactly f a b (Err refusals.Memory) = Unit {0}
Exactly f a b (Err e) = ⊥

-- just these bytes, and no suffix
abbrev pub just : List ℕ → Writing
just xs at stored = record { bytes = xs; suffixes = stored }

-- the first, and then the second
abbrev pub both : Writing → Writing → Writing
both f g at stored =
    let first = f at stored in
    let second = g (at + length first.bytes) first.suffixes in
    record { bytes = first.bytes ++ second.bytes; suffixes = second.suffixes }

-- each of these in turn
abbrev pub in_turn : {A : Type 0} → (A → Writing) → List A → Writing
in_turn f [] = just []
in_turn f (x ∷ xs) = both (f x) (in_turn f xs)

-- the number of its bytes in two bytes, as RDLENGTH is written, and then the value itself (RFC 1035, 3.2.1)
abbrev pub sized : Writing → Writing
sized f at stored =
    let inner = f (at + 2) stored in
    record {
      bytes = to_be_bytes w16 (length inner.bytes)
          ++ inner.bytes;
      suffixes = inner.suffixes;
    }

-- a pointer to an offset (RFC 1035, 4.1.4)
abbrev pub pointer : ℕ → Writing
pointer offset = just (to_be_bytes w16 (49152 + offset))

-- the offset of the first stored suffix of exactly these labels, letters as they are
abbrev pub found_in : List Stored → List (List ℕ) → Option ℕ
found_in [] labels = None
found_in (t ∷ ts) labels = if same_labels t.labels labels then Some t.offset else found_in ts labels

-- a pointer where there is an offset, and else this
abbrev pub pointer_or : Writing → Option ℕ → Writing
pointer_or f None = f
pointer_or f (Some offset) = pointer offset

-- The length of a label and the label. The labels from it on are stored as a suffix that begins here, unless a
-- pointer, of fourteen bits, can't lead here (RFC 1035, 4.1.4).
abbrev pub label_of : List ℕ → List (List ℕ) → Writing
label_of x xs at stored =
    record {
      bytes = length x ∷ x;
      suffixes = if nat_le POINTER_LIMIT at then stored else stored
          ++ record { labels = x ∷ xs; offset = at } ∷ [];
    }

-- A name, compressed: a pointer to where all its labels are stored, if they are; else its first label, and then
-- the rest of it in the same way. After the last label comes the zero byte (RFC 1035, 4.1.4).
abbrev pub name : List (List ℕ) → Writing
name [] = just (0 ∷ [])
name (x ∷ xs) =
    λ at stored. pointer_or (both (label_of x xs) (name xs)) (found_in stored (x ∷ xs)) at stored

-- a name without compression: its labels and the zero byte (RFC 1035, 3.1)
abbrev pub plain_name : List (List ℕ) → Writing
plain_name labels = just (wire_of labels ++ 0 ∷ [])

-- ---- what fits

-- Those of these values that fit under a limit, written in turn: all before the first whose own bytes would pass it.
abbrev pub that_fit : {A : Type 0} → (A → Writing) → ℕ → List A → ℕ → List Stored → List A
that_fit f limit [] at stored = []
that_fit f limit (x ∷ xs) at stored =
    let end = at + length (f x at stored).bytes in
    if nat_le end limit then x ∷ that_fit f limit xs end (f x at stored).suffixes else []

-- those that fit under a limit, in turn
abbrev pub fitting : {A : Type 0} → (A → Writing) → ℕ → List A → Writing
fitting f limit xs at stored = in_turn f (that_fit f limit xs at stored) at stored

-- the own bytes of the first of these, if there is one, would pass the limit at this place
abbrev pub FirstPassesAt : {A : Type 0} → (A → Writing) → ℕ → ℕ → List Stored → List A → Type 0
FirstPassesAt f limit at stored [] = Unit {0}
FirstPassesAt f limit at stored (x ∷ xs) = limit < at + length (f x at stored).bytes

-- and so they would in a state
abbrev pub FirstPasses : {A : Type 0} → (A → Writing) → ℕ → State → List A → Type 0
FirstPasses f limit s xs = FirstPassesAt f limit (length s.bytes) s.suffixes xs
