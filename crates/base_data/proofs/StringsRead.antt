-- The strings that a text shows are read again.
use Rattle.std.proofs.Common.{◌≡◌, ℕ, ◌+◌, ◌-◌, ◌*◌, ◌/◌, ◌%◌, ◌<◌, ◌≤◌, List, [], ◌∷◌, ◌++◌, length, map, refl, ap}
use Rattle.std.proofs.Common.{◌∙◌, arith, Bool, true, false, Some, All}
use Rattle.std.specs.Prelude.{nat_lt, nat_le, ◌==◌, ◌||◌}
use Rattle.std.specs.Char.{is_ascii_digit}
use Rattle.std.specs.List.{flat_map}
use Rattle.std.proofs.lemmas.Bool.Decides.{nat_tests}
use Rattle.std.proofs.lemmas.List.Elements.{All-head, All-tail}
use Rattle.base.specs.texts.NameText.{decimal_text}
use Rattle.base_data.proofs.StringItemLemmas.{before-nil}
use Rattle.base_data.specs.StringItems.{no_escape, put_before_all, if_short, string_item, string_items, unescaped}
use Rattle.base_data.specs.TXT.{string_byte}

-- a byte's text is that byte
digit_code : (n : ℕ) → n ≤ 9 → is_ascii_digit (48 + n) ≡ true
digit_code n low = grind (arith, nat_tests)

escaped_decimal : (b : ℕ) (rest : List ℕ) → b < 256
    → unescaped no_escape (decimal_text b ++ rest) ≡ put_before_all (b ∷ []) (unescaped no_escape rest)
unfolding unescaped
escaped_decimal b rest small =
    let hundreds = digit_code (b / 100) (omega arith) in
    let tens = digit_code (b / 10 % 10) (omega arith) in
    let ones = digit_code (b % 10) (omega arith) in
    let number : ((48 + b / 100 - 48) * 10 + (48 + b / 10 % 10 - 48)) * 10 + (48 + b % 10 - 48) ≡ b = omega arith in
    let fits : nat_lt b 256 ≡ true = grind (arith, nat_tests) in
    rw (hundreds, tens, ones, number, fits) (before-nil _ ∙ before-nil _ ∙ before-nil _)

escaped_quote : (b : ℕ) (rest : List ℕ) → b == 34 || b == 92 ≡ true
    → unescaped no_escape (92 ∷ b ∷ rest) ≡ put_before_all (b ∷ []) (unescaped no_escape rest)
unfolding unescaped
escaped_quote b rest special =
    let other : is_ascii_digit b ≡ false = grind (arith, nat_tests) in
    rw other (before-nil _)

plain_byte : (b : ℕ) (rest : List ℕ) → b == 34 || b == 92 ≡ false
    → unescaped no_escape (b ∷ rest) ≡ put_before_all (b ∷ []) (unescaped no_escape rest)
unfolding unescaped
plain_byte b rest plain =
    let other : (b == 92) ≡ false = grind (arith, nat_tests) in
    rw other refl

byte_read : (b : ℕ) (rest : List ℕ) → b < 256
    → unescaped no_escape (string_byte b ++ rest) ≡ put_before_all (b ∷ []) (unescaped no_escape rest)
byte_read b rest small = go (nat_lt b 32 || nat_lt 126 b) (b == 34 || b == 92) refl refl where
  go : (outside special : Bool) → nat_lt b 32 || nat_lt 126 b ≡ outside → b == 34 || b == 92 ≡ special
      → unescaped no_escape (string_byte b ++ rest) ≡ put_before_all (b ∷ []) (unescaped no_escape rest)
  go true special out is = rw out (escaped_decimal b rest small)
  go false true out is = rw (out, is) (escaped_quote b rest is)
  go false false out is = rw (out, is) (plain_byte b rest is)

unescaped-end : unescaped no_escape [] ≡ Some []
unfolding unescaped
unescaped-end = refl

bytes_read : (s : List ℕ) → All (λ b. b < 256) s → unescaped no_escape (flat_map string_byte s) ≡ Some s
bytes_read [] bytes = unescaped-end
bytes_read (b ∷ s) bytes =
    byte_read b (flat_map string_byte s) (All-head (λ (c : ℕ). c < 256) b s bytes)
    ∙ ap (put_before_all (b ∷ [])) (bytes_read s (All-tail (λ (c : ℕ). c < 256) b s bytes))

pub string_read : (s : List ℕ) → All (λ b. b < 256) s → length s ≤ 255 → string_item (flat_map string_byte s) ≡ Some s
unfolding string_item
string_read s bytes short =
    let fits : nat_le (length s) 255 ≡ true = grind (arith, nat_tests) in
    ap if_short (bytes_read s bytes) ∙ rw fits refl

pub strings_read : (xs : List (List ℕ)) → All (All (λ b. b < 256)) xs → All (λ s. length s ≤ 255) xs
    → string_items (map (flat_map string_byte) xs) ≡ Some xs
unfolding string_items
strings_read [] bytes short = refl
strings_read (x ∷ xs) bytes short =
    let first = string_read x (All-head (All (λ (c : ℕ). c < 256)) x xs bytes)
    (All-head (λ (s : List ℕ). length s ≤ 255) x xs short) in
    let others = strings_read xs (All-tail (All (λ (c : ℕ). c < 256)) x xs bytes)
    (All-tail (λ (s : List ℕ). length s ≤ 255) x xs short) in
    rw (first, others) refl
