-- Character strings from the items of a text (RFC 1035, 5.1): a backslash and three decimal digits up to 255 are the
-- byte of that number, a backslash and another byte are that byte, and any other byte is itself, a quote too.
use Rattle.base.specs.declared.limits.TheConstants.{MAX_STRING}
use Rattle.std.specs.Prelude.{◌≡◌, ◌≢◌, ◌<◌, false, true, ℕ, ◌+◌, ◌-◌, ◌*◌, ◌==◌, ◌&&◌, List, [], ◌∷◌, ◌++◌, length}
use Rattle.std.specs.Prelude.{nat_lt, nat_le, if◌then◌else◌, Option, Some, None}
use Rattle.std.specs.Char.{is_ascii_digit}

-- What of an escape stands before a byte: nothing; the backslash; the backslash and a digit, of this number; the
-- backslash and two digits, of this number.
pub data EscapePart : Type 0 where
  no_escape : EscapePart
  backslash : EscapePart
  one_digit : ℕ → EscapePart
  two_digits : ℕ → EscapePart

-- what a byte is after as much of an escape: a byte of the string or none, and as much of an escape then
abbrev pub escape_step : EscapePart → ℕ → Option (Option ℕ × EscapePart)
escape_step no_escape c = if c == 92 then Some (None, backslash) else Some (Some c, no_escape)
escape_step backslash c = if is_ascii_digit c then Some (None, one_digit (c - 48))
    else Some (Some c, no_escape)
escape_step (one_digit n) c = if is_ascii_digit c then Some (None, two_digits (n * 10 + (c - 48)))
    else None
escape_step (two_digits n) c = if is_ascii_digit c && nat_lt (n * 10 + (c - 48)) 256
    then Some (Some (n * 10 + (c - 48)), no_escape) else None

-- these before those of the rest
abbrev pub put_before_all : {A : Type 0} → List A → Option (List A) → Option (List A)
put_before_all front None = None
put_before_all front (Some rest) = Some (front ++ rest)

-- the byte, if there is one
abbrev pub byte_list : Option ℕ → List ℕ
byte_list None = []
byte_list (Some b) = b ∷ []

-- the byte of a step, before what is read after it
abbrev pub step_on : (EscapePart → Option (List ℕ)) → Option (Option ℕ × EscapePart)
    → Option (List ℕ)
step_on more None = None
step_on more (Some step) = put_before_all (byte_list step.0) (more step.1)

-- a text ends outside of escapes
abbrev pub ends_outside : EscapePart → Option (List ℕ)
ends_outside no_escape = Some []
ends_outside _ = None

-- the bytes of a text that stands after as much of an escape
unfoldable pub unescaped : EscapePart → List ℕ → Option (List ℕ)
unescaped state [] = ends_outside state
unescaped state (c ∷ text) = step_on (λ s. unescaped s text) (escape_step state c)

-- bytes of a string, 255 at most
abbrev pub if_short : Option (List ℕ) → Option (List ℕ)
if_short None = None
if_short (Some bytes) = if nat_le (length bytes) MAX_STRING then Some bytes else None

-- the character string that an item is
unfoldable pub string_item : List ℕ → Option (List ℕ)
string_item text = if_short (unescaped no_escape text)

-- one before the others, where there are both
abbrev pub put_before : {A : Type 0} → Option A → Option (List A) → Option (List A)
put_before None rest = None
put_before (Some x) rest = put_before_all (x ∷ []) rest

-- the character string of each item
unfoldable pub string_items : List (List ℕ) → Option (List (List ℕ))
string_items [] = Some []
string_items (text ∷ texts) = put_before (string_item text) (string_items texts)

-- A text says these bytes, piece by piece: a byte that is no backslash is itself; a backslash and a byte that is no
-- digit are that byte; a backslash and three digits are the byte of that number.
pub data IsStringText : List ℕ → List ℕ → Type 0 where
  is_end : IsStringText [] []
  is_plain : {c : ℕ} {text bytes : List ℕ} → c ≢ 92 → IsStringText text bytes
      → IsStringText (c ∷ text) (c ∷ bytes)
  is_escaped : {c : ℕ} {text bytes : List ℕ} → is_ascii_digit c ≡ false → IsStringText text bytes
      → IsStringText (92 ∷ c ∷ text) (c ∷ bytes)
  is_number : {a b c n : ℕ} {text bytes : List ℕ} → is_ascii_digit a ≡ true
      → is_ascii_digit b ≡ true → is_ascii_digit c ≡ true
      → n ≡ (a - 48) * 100 + (b - 48) * 10 + (c - 48) → n < 256 → IsStringText text bytes
      → IsStringText (92 ∷ a ∷ b ∷ c ∷ text) (n ∷ bytes)
