-- Bytes that are only carried, and their text (RFC 3597, 5).
use Rattle.std.specs.Prelude.{ℕ, Bool, ◌/◌, ◌%◌, ◌==◌, List, [], ◌∷◌, ◌++◌, length, codes, nat_eq, if◌then◌else◌, None}
use Rattle.std.specs.Char.{digit_char}
use Rattle.std.specs.Cmp.Lexicographic.{pointwise, slice_cmp}
use Rattle.std.specs.Fmt.{decimal}
use Rattle.std.specs.List.{flat_map}
use Rattle.std.specs.Ordering.{nat_cmp}
use Rattle.std.specs.declared.cmp.Ordering.{Ordering}
use Rattle.base_data.specs.Kind.{Kind, bare, no_places}
use Rattle.base.specs.Words.{Bytes}
use Rattle.base.specs.writing.SaysParts.{Says-bytes}
use Rattle.base.specs.writing.Written.{just}

-- a byte in two hexadecimal digits, in lower case
abbrev pub byte_hex : ℕ → List ℕ
byte_hex b = digit_char (b / 16) ∷ digit_char (b % 16) ∷ []

-- bytes in hexadecimal digits, two for each
abbrev pub hex_text : List ℕ → List ℕ
hex_text bytes = flat_map byte_hex bytes

-- data of a type that has no text of its own: \#, the number of bytes, and the bytes if there are any
abbrev pub opaque_text : List ℕ → List ℕ
opaque_text bytes = if length bytes == 0 then codes "\\# 0" else codes "\\# "
    ++ decimal (length bytes) ++ codes " " ++ hex_text bytes

-- the same bytes
abbrev pub same_bytes : List ℕ → List ℕ → Bool
same_bytes = pointwise nat_eq

-- the order of bytes: by the first that differs, and what is a beginning before what it begins
abbrev pub bytes_cmp : List ℕ → List ℕ → Ordering
bytes_cmp = slice_cmp nat_cmp

-- what is known of bytes that are only carried
abbrev pub bytes_kind : Type 0 → List ℕ → Kind
bytes_kind readable x = record {
  word = Bytes x;
  plain = length x;
  written = just x;
  kept = Unit {0};
  says = Says-bytes x;
  readable = readable;
  text = opaque_text x;
  canonical = x;
  held = [];
  places = no_places;
  items = None;
  shown = bare;
  spelled = ⊥;
}
