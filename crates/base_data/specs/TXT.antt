-- Texts: character strings, each a byte for its length and that number of bytes (RFC 1035, 3.3 and 3.3.14).
use Rattle.base.specs.declared.limits.TheConstants.{MAX_STRING}
use Rattle.std.specs.Prelude.{◌≡◌, ◌≢◌, ℕ, Bool, All, ◌<◌, ◌≤◌, ◌||◌, ◌==◌, List, [], ◌∷◌, ◌++◌, length, map, nat_lt}
use Rattle.std.specs.Prelude.{if◌then◌else◌, Ok, Err, Option, Some, None}
use Rattle.std.specs.List.{flat_map, join_with_byte}
use Rattle.std.specs.Ordering.{on}
use Rattle.std.specs.Str.{bytes_eq}
use Rattle.base.specs.names.Labels.{wire_of, labels_of}
use Rattle.base.specs.texts.NameText.{decimal_text}
use Rattle.base.specs.reading.Reading.{Read, bytes_at, ◌>>=◌}
use Rattle.base.specs.declared.error.decode_error.DecodeError.TheVariants as faults
use Rattle.base_data.specs.Opaque.{same_bytes}
use Rattle.base_data.specs.Kind.{Kind, no_places}
use Rattle.base_data.specs.StringItems.{string_items}
use Rattle.base.specs.Words.{Bytes}
use Rattle.base.specs.writing.SaysParts.{Says-bytes}
use Rattle.base.specs.writing.Written.{just}

-- each string has up to 255 bytes
abbrev pub AreShort : List (List ℕ) → Type 0
AreShort strings = All (λ string. length string ≤ MAX_STRING) strings

-- bytes that are strings, each with its length before it: one string at least, each of up to 255 bytes
pub record IsText (bytes : List ℕ) : Type 0 where
  pub whole : wire_of (labels_of bytes) ≡ bytes
  pub some : labels_of bytes ≢ []
  pub short : AreShort (labels_of bytes)

-- whether bytes are strings, each with its length before it, that fill them exactly
abbrev pub are_strings : List ℕ → Bool
are_strings bytes = bytes_eq (wire_of (labels_of bytes)) bytes

-- the strings of `len` bytes
abbrev pub txt_at : ℕ → List ℕ → ℕ → Read (List (List ℕ))
txt_at len bytes i = bytes_at len bytes i >>= λ r. if are_strings r.0 then Ok (labels_of r.0, r.1)
    else Err faults.InsufficientBytes

-- the strings of one item or more
unfoldable pub txt_of : List (List ℕ) → Option (List (List ℕ))
txt_of [] = None
txt_of items = string_items items

-- the text of a byte: itself if it is printable or a space, with a backslash before a quote and a backslash
abbrev pub string_byte : ℕ → List ℕ
string_byte b = if nat_lt b 32 || nat_lt 126 b then decimal_text b
    else (if b == 34 || b == 92 then 92 ∷ b ∷ [] else b ∷ [])

-- an item in quotes
abbrev pub in_quotes : List ℕ → List ℕ
in_quotes item = 34 ∷ item ++ 34 ∷ []

-- a string in quotes
abbrev pub string_text : List ℕ → List ℕ
string_text string = in_quotes (flat_map string_byte string)

-- the strings with a space between them
abbrev pub txt_text : List (List ℕ) → List ℕ
txt_text strings = join_with_byte 32 (map string_text strings)

-- the same strings: by their bytes on the wire
abbrev pub same_txt : List (List ℕ) → List (List ℕ) → Bool
same_txt = on wire_of same_bytes

-- strings as texts hold them: one at least, of bytes, each of up to 255
pub record AreStrings (strings : List (List ℕ)) : Type 0 where
  pub some : strings ≢ []
  pub bytes : All (All (λ b. b < 256)) strings
  pub short : AreShort strings

-- the kind TXT
abbrev pub txt_kind : List (List ℕ) → Kind
txt_kind x = record {
  word = Bytes (wire_of x);
  plain = length (wire_of x);
  written = just (wire_of x);
  kept = Unit {0};
  says = Says-bytes (wire_of x);
  readable = x ≢ [];
  text = txt_text x;
  canonical = wire_of x;
  held = [];
  places = no_places;
  items = Some (map (flat_map string_byte) x);
  shown = in_quotes;
  spelled = AreStrings x;
}
