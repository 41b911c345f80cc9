-- The text of bytes in hexadecimal digits.
use Rattle.std.proofs.Common.{◌≡◌, ℕ, ◌+◌, ◌-◌, ◌^◌, ◌<◌, List, [], ◌∷◌, ◌++◌, length, take, get_or, ap, sym, ◌∙◌, Some}
use Rattle.std.proofs.Common.{false}
use Rattle.std.proofs.lemmas.Fmt.{hex_byte}
use Rattle.std.proofs.lemmas.List.{take_more}
use Rattle.std.proofs.lemmas.List.Concat.{flat_map-append}
use Rattle.std.specs.Fmt.{digits, digits_output, format_spec, padded_integral, styled_digits_output}
use Rattle.std.specs.Option.{option_map}
use Rattle.base_data.specs.Opaque.{byte_hex, hex_text}

-- what `{:02x}` writes of a byte
pub two_digits : (d s : _) (b : ℕ) → b < 256 → digits_output d ≡ Some (digits 16 false b)
    → s ≡ format_spec 32 0 4 2 (2 ^ 64 - 1) → styled_digits_output d s ≡ Some (byte_hex b)
two_digits d s b small is layout =
    ap (styled_digits_output d) layout ∙ ap (option_map (padded_integral (format_spec 32 0 4 2 (2 ^ 64 - 1)) false []))
    is ∙ ap Some (hex_byte false b small)

-- one byte more was written
pub next_byte : (bytes : List ℕ) (i : ℕ) → i < length bytes
    → hex_text (take i bytes) ++ byte_hex (get_or bytes i 0) ≡ hex_text (take (i + 1) bytes)
next_byte bytes i inside =
    sym (ap hex_text (take_more bytes i 0 inside) ∙ flat_map-append byte_hex (take i bytes) (get_or bytes i 0 ∷ []))
