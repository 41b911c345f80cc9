-- The text of options.
use Rattle.std.proofs.Common.{◌≡◌, ℕ, ◌+◌, ◌<◌, List, [], ◌∷◌, ◌++◌, length, take, get_or, refl, ap, sym, ◌∙◌, arith}
use Rattle.std.proofs.Common.{append_assoc, length-append, codes, decimal}
use Rattle.std.proofs.lemmas.Bool.{eq-eqb, ne_eqb}
use Rattle.std.proofs.lemmas.List.{append-nil, take_more}
use Rattle.std.proofs.lemmas.List.Concat.{flat_map-append}
use Rattle.base_data.specs.Opaque.{byte_hex, hex_text, opaque_text}
use Rattle.base_data.specs.OPT.{OptionValue, option_len, option_wire, options_len, options_wire}

options_wire-push : (xs : List OptionValue) (x : OptionValue)
    → options_wire (xs ++ x ∷ []) ≡ options_wire xs ++ option_wire x
options_wire-push [] x = append-nil (option_wire x)
options_wire-push (y ∷ ys) x = ap (λ (rest : List ℕ). option_wire y ++ rest) (options_wire-push ys x)
    ∙ sym (append_assoc (option_wire y) (options_wire ys) (option_wire x))

length-option_wire : (x : OptionValue) → length (option_wire x) ≡ option_len x
length-option_wire x = omega arith

length-options_wire : (xs : List OptionValue) → length (options_wire xs) ≡ options_len xs
length-options_wire [] = refl
length-options_wire (x ∷ xs) = omega (
  arith,
  length-append (option_wire x) (options_wire xs),
  length-option_wire x,
  length-options_wire xs,
)

-- one option more was written
pub hex_next : (options : List OptionValue) (i : ℕ) (option : OptionValue) → i < length options
    → option ≡ get_or options i option
    → hex_text (options_wire (take i options)) ++ hex_text (option_wire option) ≡ hex_text
    (options_wire (take (i + 1) options))
hex_next options i option inside is =
    let next : take (i + 1) options ≡ take i options ++ option ∷ [] =
    take_more options i option inside ∙ ap (λ (x : OptionValue). take i options ++ x ∷ []) (sym is) in
    sym (ap (λ (xs : List OptionValue). hex_text (options_wire xs)) next
    ∙ ap hex_text (options_wire-push (take i options) option)
    ∙ flat_map-append byte_hex (options_wire (take i options)) (option_wire option))

-- one option more was counted
pub len_next : (options : List OptionValue) (i : ℕ) (option : OptionValue) → i < length options
    → option ≡ get_or options i option
    → options_len (take i options) + (4 + length option.bytes) ≡ options_len (take (i + 1) options)
len_next options i option inside is =
    let next : take (i + 1) options ≡ take i options ++ option ∷ [] =
    take_more options i option inside ∙ ap (λ (x : OptionValue). take i options ++ x ∷ []) (sym is) in
    omega (arith, ap options_len next, pushed (take i options) option) where
      pushed : (xs : List OptionValue) (x : OptionValue) → options_len (xs ++ x ∷ []) ≡ options_len xs + option_len x
      pushed [] x = omega arith
      pushed (y ∷ ys) x = omega (arith, pushed ys x)

pub none_text : (options : List OptionValue) (n : ℕ) → n ≡ options_len options → n ≡ 0
    → codes "\\# 0" ≡ opaque_text (options_wire options)
none_text options n counted none = rw (eq-eqb (length (options_wire options)) 0
    (omega (arith, length-options_wire options))) refl

pub some_text : (options : List OptionValue) (n : ℕ) → n ≡ options_len options → 0 < n
    → codes "\\# " ++ (decimal n ++ (codes " " ++ hex_text (options_wire options))) ≡ opaque_text (options_wire options)
some_text options n counted some =
    let same : length (options_wire options) ≡ n = omega (arith, length-options_wire options) in
    rw (ne_eqb (length (options_wire options)) 0 (omega arith), same)
    (ap (λ (text : List ℕ). 92 ∷ 35 ∷ 32 ∷ text)
    (sym (append_assoc (decimal n) (32 ∷ []) (hex_text (options_wire options)))))
