-- EDNS options: each a code, a length and that number of bytes (RFC 6891, 6.1.2).
use Rattle.std.specs.Prelude.{ℕ, Bool, ◌+◌, ◌^◌, ◌<◌, ◌==◌, not, List, [], ◌∷◌, ◌++◌, zero, suc, length, filter, find}
use Rattle.std.specs.Prelude.{position, slice_set, nat_eq, nat_le, if◌then◌else◌, Option, None, Ok, ◌≢◌, All}
use Rattle.std.proofs.Common.{◌≡◌, subst, arith}
use Rattle.std.proofs.lemmas.List.Elements.{All-head, All-tail}
use Rattle.std.specs.Cmp.Lexicographic.{pointwise}
use Rattle.std.specs.Int.{w16, to_be_bytes}
use Rattle.std.specs.Option.{option_map_or}
use Rattle.std.specs.Ordering.{eq_of_both, on}
use Rattle.base.specs.reading.Reading.{Read, bytes_at, number_at, ◌>>=◌}
use Rattle.base.specs.writing.Says.{Says}
use Rattle.base.specs.writing.SaysParts.{Says-both, Says-bytes, Says-just, Says-number, Says-weaker}
use Rattle.base.specs.Words.{BackToBack, Bytes, Number, Then}
use Rattle.base.specs.Words.BackToBack.{none, more}
use Rattle.base_data.specs.Opaque.{opaque_text, same_bytes}
use Rattle.base_data.specs.Kind.{Kind, bare, no_places}
use Rattle.base.specs.writing.Written.{Writing, just, both, in_turn}

-- an option's code and bytes
pub record OptionValue : Type 0 where
  pub code : ℕ
  pub bytes : List ℕ

-- the code and the number of bytes have their widths
abbrev pub FitsOption : OptionValue → Type 0
FitsOption option = (option.code < 2 ^ 16) × (length option.bytes < 2 ^ 16)

-- the bytes of an option on the wire
abbrev pub option_wire : OptionValue → List ℕ
option_wire option = to_be_bytes w16 option.code ++ to_be_bytes w16 (length option.bytes)
    ++ option.bytes

-- the bytes of options, one after the other
abbrev pub options_wire : List OptionValue → List ℕ
options_wire [] = []
options_wire (option ∷ options) = option_wire option ++ options_wire options

-- what is written of an option: its code, the number of its bytes, and those
abbrev pub option_written : OptionValue → Writing
option_written option =
    both (just (to_be_bytes w16 option.code))
    (both (just (to_be_bytes w16 (length option.bytes))) (just option.bytes))

-- an option stands here
abbrev pub option_word : OptionValue → List ℕ → ℕ → ℕ → Type 0
option_word option =
    Then (Number w16 option.code) (Then (Number w16 (length option.bytes)) (Bytes option.bytes))

-- how many bytes an option is: its code, the number of its bytes, and those
abbrev pub option_len : OptionValue → ℕ
option_len option = 2 + (2 + length option.bytes)

-- options stand here, back to back
abbrev pub options_word : List OptionValue → List ℕ → ℕ → ℕ → Type 0
options_word options B i e =
    BackToBack (λ (j : ℕ) (option : OptionValue) (k : ℕ). option_word option B j k) i options e

-- how many bytes options are
abbrev pub options_len : List OptionValue → ℕ
options_len [] = 0
options_len (option ∷ options) = option_len option + options_len options

-- the option at a place
abbrev pub option_at : List ℕ → ℕ → Read OptionValue
option_at bytes i =
    number_at w16 bytes i >>= λ code. number_at w16 bytes code.1 >>= λ len.
    bytes_at len.0 bytes len.1 >>= λ text. Ok (record { code = code.0; bytes = text.0 }, text.1)

-- the options from i up to `end`, n of them at most
unfoldable pub options_to : ℕ → ℕ → List ℕ → ℕ → Read (List OptionValue)
options_to zero end bytes i = Ok ([], i)
options_to (suc n) end bytes i =
    if nat_le end i then Ok ([], i)
    else (option_at bytes i >>= λ first. options_to n end bytes first.1
    >>= λ others. Ok (first.0 ∷ others.0, others.1))

-- The options that begin within `len` bytes from i. An option takes a byte at least, so `len` of them suffice.
unfoldable pub opt_at : ℕ → List ℕ → ℕ → Read (List OptionValue)
opt_at len bytes i = options_to len (i + len) bytes i

-- whether an option has the code
abbrev pub has_code : ℕ → OptionValue → Bool
has_code code option = option.code == code

-- the first option of a code
abbrev pub first_option : ℕ → List OptionValue → Option OptionValue
first_option code options = find (has_code code) options

-- with an option in the place of the first of its code, or after all others where none has its code
abbrev pub with_option : OptionValue → List OptionValue → List OptionValue
with_option option options =
    option_map_or (λ i. slice_set options i option) (position (has_code option.code) options)
    (options ++ option ∷ [])

-- without the options of a code
abbrev pub without_code : ℕ → List OptionValue → List OptionValue
without_code code options = filter (λ option. not (has_code code option)) options

-- the same code and the same bytes
abbrev pub same_option : OptionValue → OptionValue → Bool
same_option = eq_of_both (on (λ o. o.code) nat_eq) (on (λ o. o.bytes) same_bytes)

-- the same options, one by one
abbrev pub same_options : List OptionValue → List OptionValue → Bool
same_options = pointwise same_option

-- where what is written of options stands, they stand
pub option_says : (option : OptionValue)
    → Says (option_written option) (FitsOption option) (option_word option) (option_len option) []
option_says option =
    Says-weaker (option_written option) (FitsOption option) (λ ok. (ok.0, (ok.1, tt)))
    (λ ok B i e word. word) (omega arith)
    (Says-both (just (to_be_bytes w16 option.code))
    (both (just (to_be_bytes w16 (length option.bytes))) (just option.bytes))
    (Says-number option.code)
    (Says-both (just (to_be_bytes w16 (length option.bytes))) (just option.bytes)
    (Says-number (length option.bytes)) (Says-bytes option.bytes)))

-- where what is written of options stands, they stand
pub options_say : (options : List OptionValue)
    → Says (in_turn option_written options) (All FitsOption options) (options_word options)
    (options_len options) []
options_say [] = Says-just (All FitsOption []) (options_word []) 0 [] (omega arith)
    (λ ok B at small h. let same : at ≡ at + 0 = omega arith
    in subst (λ (e : ℕ). options_word [] B at e) same none)
options_say (option ∷ options) =
    Says-weaker (in_turn option_written (option ∷ options)) (All FitsOption (option ∷ options))
    (λ ok. (All-head FitsOption option options ok, All-tail FitsOption option options ok))
    (λ ok B i e word. more word.1 word.2) (omega arith)
    (Says-both (option_written option) (in_turn option_written options) (option_says option)
    (options_say options))

-- the kind OPT
abbrev pub opt_kind : List OptionValue → Kind
opt_kind x = record {
  word = options_word x;
  plain = options_len x;
  written = in_turn option_written x;
  kept = All FitsOption x;
  says = options_say x;
  readable = x ≢ [];
  text = opaque_text (options_wire x);
  canonical = options_wire x;
  held = [];
  places = no_places;
  items = None;
  shown = bare;
  spelled = ⊥;
}
