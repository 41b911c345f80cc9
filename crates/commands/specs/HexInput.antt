-- Bytes as hexadecimal text.
use Rattle.std.specs.Prelude.{ℕ, Bool, ◌==◌, ◌||◌, not, List, filter, Result}
use Rattle.hex.specs.Hex.{decode_of}
use Rattle.hex.specs.declared.error.FromHexError.{FromHexError}

-- a space, a tab, a line feed or a carriage return
abbrev pub is_hex_blank : ℕ → Bool
is_hex_blank c = (c == 32) || ((c == 9) || ((c == 10) || (c == 13)))

-- the bytes that a text spells, blanks dropped wherever they stand
abbrev pub bytes_of : List ℕ → Result (List ℕ) FromHexError
bytes_of text = decode_of (filter (λ c. not (is_hex_blank c)) text)
