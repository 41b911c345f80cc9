-- How a name is spelled in a message (RFC 1035, 4.1.4).
use Rattle.base.specs.declared.limits.TheConstants.{MAX_LABEL, MAX_NAME, POINTER_BITS}
use Rattle.std.specs.Prelude.{◌≡◌, ℕ, ◌+◌, ◌-◌, ◌*◌, ◌<◌, ◌≤◌, ◌⊎◌, Bool, IsTrue, List, [], ◌∷◌, length, slice_index}
use Rattle.std.specs.Prelude.{true}
use Rattle.base.specs.names.Labels.{NameValue, plain_len}

-- The byte at i is b. The places that may be looked at are those of which looks holds.
pub record ByteAt (looks : ℕ → Type 0) (bytes : List ℕ) (i b : ℕ) : Type 0 where
  pub inside : i < length bytes
  pub is : slice_index bytes i ≡ b
  pub seen : looks i

-- These bytes stand from i on.
pub record BytesAt (looks : ℕ → Type 0) (bytes : List ℕ) (i : ℕ) (x : List ℕ) : Type 0 where
  pub inside : i + length x ≤ length bytes
  pub is : (k : ℕ) → k < length x → slice_index bytes (i + k) ≡ slice_index x k
  pub seen : (k : ℕ) → k < length x → looks (i + k)

-- the offset of a pointer of two bytes, the top bits of the first being 11
abbrev pub target : ℕ → ℕ → ℕ
target b c = 256 * (b - POINTER_BITS) + c

-- The labels are spelled from i up to e, in a piece that begins at s: a zero byte; or a label, and
-- the others after it; or a pointer to a place below s, where a new piece begins.
pub data SpelledIn (looks : ℕ → Type 0) (bytes : List ℕ) : ℕ → ℕ → List (List ℕ) → ℕ → Type 0 where
  ends : {s i : ℕ} → ByteAt looks bytes i 0 → SpelledIn looks bytes s i [] (i + 1)
  label : {s i e : ℕ} {x : List ℕ} {xs : List (List ℕ)} → ByteAt looks bytes i (length x)
      → 1 ≤ length x → length x ≤ MAX_LABEL → BytesAt looks bytes (i + 1) x
      → SpelledIn looks bytes s (i + 1 + length x) xs e → SpelledIn looks bytes s i (x ∷ xs) e
  pointer : {s i b c e : ℕ} {xs : List (List ℕ)} → ByteAt looks bytes i b
      → ByteAt looks bytes (i + 1) c → POINTER_BITS ≤ b → target b c < s
      → SpelledIn looks bytes (target b c) (target b c) xs e → SpelledIn looks bytes s i xs (i + 2)

-- every place that is looked at and lies in the old bytes lies in the new ones, with the same byte
pub record KeepsSeen (looks : ℕ → Type 0) (old new : List ℕ) : Type 0 where
  pub inside : (i : ℕ) → looks i → i < length old → i < length new
  pub same : (i : ℕ) → looks i → i < length old → slice_index new i ≡ slice_index old i

-- the places that are looked at, by a test
abbrev pub among : (ℕ → Bool) → ℕ → Type 0
among looks i = IsTrue (looks i)

-- every place is looked at
abbrev pub anywhere : ℕ → Type 0
anywhere i = Unit {0}

-- the places that are looked at: those before a range and those after it
abbrev pub outside : ℕ → ℕ → ℕ → Type 0
outside from to i = (i < from) ⊎ (to ≤ i)

-- the labels are spelled from i up to e, in a piece that begins at s
abbrev pub Spelled : List ℕ → List (List ℕ) → ℕ → ℕ → ℕ → Type 0
Spelled bytes labels s i e = SpelledIn anywhere bytes s i labels e

-- a name stands from i up to e: absolute, and of at most 255 bytes without compression
pub record IsNameAt (bytes : List ℕ) (i : ℕ) (name : NameValue) (e : ℕ) : Type 0 where
  pub spelled : Spelled bytes name.labels i i e
  pub short : plain_len name.labels ≤ MAX_NAME
  pub absolute : name.absolute ≡ true

-- these names stand at these places
pub data NamesStand (bytes : List ℕ) : List ℕ → List NameValue → Type 0 where
  no_more : NamesStand bytes [] []
  one_more : {i e : ℕ} {name : NameValue} {places : List ℕ} {names : List NameValue}
      → IsNameAt bytes i name e → NamesStand bytes places names
      → NamesStand bytes (i ∷ places) (name ∷ names)
