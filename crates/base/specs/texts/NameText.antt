-- The text of names (RFC 1035, 5.1; RFC 4343, 2.1).
use Rattle.base.specs.declared.limits.TheConstants.{MAX_NAME}
use Rattle.std.specs.Prelude.{◌≡◌, ◌≢◌, ℕ, Bool, true, false, ◌+◌, ◌-◌, ◌*◌, ◌/◌, ◌%◌, ◌<◌, ◌≤◌, ◌&&◌, ◌||◌, ◌==◌, List}
use Rattle.std.specs.Prelude.{[], ◌∷◌, ◌++◌, map, nat_lt, nat_le, if◌then◌else◌, Option, Some, None, IsTrue}
use Rattle.std.specs.Char.{is_ascii_digit}
use Rattle.std.specs.List.{flat_map, join_with_byte}
use Rattle.base.specs.names.Labels.{NameValue, AreLabels, plain_len}

-- the bytes before which a backslash stands: . \ " ( ) ; @ $
abbrev pub is_special : ℕ → Bool
is_special b = b == 46 || b == 92 || b == 34 || b == 40 || b == 41 || b == 59 || b == 64 || b == 36

-- a backslash and three decimal digits
abbrev pub decimal_text : ℕ → List ℕ
decimal_text b = 92 ∷ (48 + b / 100) ∷ (48 + b / 10 % 10) ∷ (48 + b % 10) ∷ []

-- the text of a byte: itself if it is printable and no space, with a backslash before it if it is special
abbrev pub byte_text : ℕ → List ℕ
byte_text b = if nat_lt b 33 || nat_lt 126 b then decimal_text b
    else (if is_special b then 92 ∷ b ∷ [] else b ∷ [])

-- the text of a label: that of its bytes, one after another
abbrev pub label_text : List ℕ → List ℕ
label_text label = flat_map byte_text label

-- the labels with dots between them
abbrev pub labels_text : List (List ℕ) → List ℕ
labels_text labels = join_with_byte 46 (map label_text labels)

-- the text of a name: its labels, and a dot at the end if it is absolute
abbrev pub name_text : NameValue → List ℕ
name_text name = labels_text name.labels ++ (if name.absolute then 46 ∷ [] else [])

-- three decimal digits of this number, which is a byte
pub record IsDecimal (x y z number : ℕ) : Type 0 where
  pub first : IsTrue (is_ascii_digit x)
  pub second : IsTrue (is_ascii_digit y)
  pub third : IsTrue (is_ascii_digit z)
  pub is : number ≡ 100 * (x - 48) + 10 * (y - 48) + (z - 48)
  pub byte : number ≤ 255

-- A character of a name's text: the dot between labels, or at the end, or a byte of a label.
pub data Character : Type 0 where
  dot : Character
  byte : ℕ → Character

-- A piece of text that is one character: a dot; a printable byte that is neither space, dot nor backslash;
-- a backslash and another character of ASCII, but a digit; or a backslash and three decimal digits.
pub data IsCharText (text : List ℕ) : Character → Type 0 where
  is_dot : text ≡ 46 ∷ [] → IsCharText text dot
  is_printable : {b : ℕ} → text ≡ b ∷ [] → 33 ≤ b → b ≤ 126 → b ≢ 46 → b ≢ 92
      → IsCharText text (byte b)
  is_escaped : {b : ℕ} → text ≡ 92 ∷ b ∷ [] → b < 128 → is_ascii_digit b ≡ false
      → IsCharText text (byte b)
  is_number : {x y z b : ℕ} → text ≡ 92 ∷ x ∷ y ∷ z ∷ [] → IsDecimal x y z b
      → IsCharText text (byte b)

-- The character after a backslash and a digit, which two more digits follow: the byte of this number.
unfoldable pub decimal_char : ℕ → List ℕ → Option (Character × List ℕ)
decimal_char x (y ∷ z ∷ rest) =
    let number = 100 * (x - 48) + 10 * (y - 48) + (z - 48) in
    if is_ascii_digit y && is_ascii_digit z && nat_lt number 256 then Some (byte number, rest)
    else None
decimal_char x _ = None

-- The character after a backslash: the byte of three decimal digits, or any other of ASCII as a byte.
unfoldable pub escaped_char : List ℕ → Option (Character × List ℕ)
escaped_char [] = None
escaped_char (c ∷ rest) =
    if is_ascii_digit c then decimal_char c rest
    else (if nat_lt c 128 then Some (byte c, rest) else None)

-- The first character of a text, and the text after it: an escaped one, a dot, or a printable one that is
-- no space. None where the text begins otherwise.
unfoldable pub first_char : List ℕ → Option (Character × List ℕ)
first_char [] = None
first_char (c ∷ rest) =
    if c == 92 then escaped_char rest
    else (if c == 46 then Some (dot, rest)
    else (if nat_le 33 c && nat_le c 126 then Some (byte c, rest) else None))

-- the text is these characters, one after another
pub data AreCharsOf : List ℕ → List Character → Type 0 where
  none : AreCharsOf [] []
  more : {text piece rest : List ℕ} {c : Character} {cs : List Character} → IsCharText piece c
      → text ≡ piece ++ rest → AreCharsOf rest cs → AreCharsOf text (c ∷ cs)

-- the characters of labels with dots between them
abbrev pub dotted : List (List ℕ) → List Character
dotted [] = []
dotted (x ∷ []) = map byte x
dotted (x ∷ y ∷ ys) = map byte x ++ (dot ∷ dotted (y ∷ ys))

-- The text is one or more labels with dots between them, and with a dot at the end if the name is absolute.
pub record IsLabelsText (text : List ℕ) (labels : List (List ℕ)) (absolute : Bool) : Type 0 where
  pub reads : AreCharsOf text (dotted labels ++ (if absolute then dot ∷ [] else []))
  pub some : labels ≢ []
  pub each : AreLabels labels
  pub short : plain_len labels ≤ MAX_NAME

-- The text names this name, where an origin may be given: a dot alone the root; a sign @ alone the origin;
-- labels with a dot at the end an absolute name, and without one a relative name, or the absolute one that
-- the origin completes.
pub data IsNameText (text : List ℕ) (origin : Option NameValue) : NameValue → Type 0 where
  is_root : text ≡ 46 ∷ [] → IsNameText text origin (record { labels = []; absolute = true })
  is_origin : {o : NameValue} → origin ≡ Some o → text ≡ 64 ∷ [] → IsNameText text origin o
  is_absolute : {labels : List (List ℕ)} → IsLabelsText text labels true
      → IsNameText text origin (record { labels = labels; absolute = true })
  is_relative : {labels : List (List ℕ)} → origin ≡ None → text ≢ 64 ∷ []
      → IsLabelsText text labels false
      → IsNameText text origin (record { labels = labels; absolute = false })
  is_completed : {o : NameValue} {labels : List (List ℕ)} → origin ≡ Some o → text ≢ 64 ∷ []
      → IsLabelsText text labels false → plain_len (labels ++ o.labels) ≤ MAX_NAME
      → IsNameText text origin (record { labels = labels ++ o.labels; absolute = true })
