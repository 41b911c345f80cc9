-- The decimal digits of an escaped byte (RFC 1035, 5.1).
use Rattle.std.proofs.Common.{◌≡◌, ℕ, ◌+◌, ◌-◌, ◌^◌, ◌<◌, ◌≤◌, ◌/◌, ◌%◌, [], ◌∷◌, ◌++◌, ap, ◌∙◌, arith, true, false}
use Rattle.std.proofs.Common.{⊎_elim}
use Rattle.std.proofs.lemmas.Bool.{cases_lt}
use Rattle.std.proofs.lemmas.Fmt.{decimal_digit, decimal_step}
use Rattle.std.proofs.Math.Utf8.{encode}
use Rattle.std.proofs.lemmas.Str.{encode_ascii}
use Rattle.std.specs.Char.{is_ascii_graphic}
use Rattle.std.specs.Fmt.{decimal, format_spec, padded_integral, char_count}
use Rattle.base.specs.texts.NameText.{byte_text, decimal_text, is_special}

-- a number of two digits
two_digits : (n : ℕ) → 10 ≤ n → n < 100 → decimal n ≡ (48 + n / 10) ∷ (48 + n % 10) ∷ []
two_digits n low high = decimal_step n low (omega arith)
    ∙ ap (λ front. front ++ ((48 + n % 10) ∷ [])) (decimal_digit (n / 10) (omega arith))

-- a number of three digits
three_digits : (n : ℕ) → 100 ≤ n → n < 1000 → decimal n ≡ (48 + n / 100) ∷ (48 + n / 10 % 10) ∷ (48 + n % 10) ∷ []
three_digits n low high =
    let same : n / 10 / 10 ≡ n / 100 = omega arith in
    decimal_step n (omega arith) (omega arith)
    ∙ ap (λ front. front ++ ((48 + n % 10) ∷ [])) (two_digits (n / 10) (omega arith) (omega arith))
    ∙ ap (λ high. (48 + high) ∷ (48 + n / 10 % 10) ∷ (48 + n % 10) ∷ []) same

-- what `{:03}` writes of a byte
pub three_places : (n : ℕ) → n < 256 → padded_integral (format_spec 32 0 4 3 (2 ^ 64 - 1)) false [] (decimal n)
    ≡ (48 + n / 100) ∷ (48 + n / 10 % 10) ∷ (48 + n % 10) ∷ []
unfolding padded_integral char_count
three_places n small = ⊎_elim
    (λ one. let a : n / 100 ≡ 0 = omega arith in let b : n / 10 % 10 ≡ 0 = omega arith in let c : n % 10 ≡ n =
    omega arith in rw (decimal_digit n one, a, b, c))
    (λ more. ⊎_elim
    (λ two. let a : n / 100 ≡ 0 = omega arith in let b : n / 10 % 10 ≡ n / 10 = omega arith in
    rw (two_digits n more two, a, b))
    (λ three. rw (three_digits n three (omega arith)))
    (cases_lt n 100))
    (cases_lt n 10)

-- a byte that isn't printable, or is a space, is written as its number
pub escaped : (b : ℕ) → is_ascii_graphic b ≡ false → decimal_text b ≡ byte_text b
escaped b plain = search (plain, arith)

-- a special one is written after a backslash, and any other as itself
pub special : (b : ℕ) → is_ascii_graphic b ≡ true → is_special b ≡ true → 92 ∷ encode b ≡ byte_text b
special b graphic is = rw (encode_ascii b (search (graphic, arith)), is) (search (graphic, arith))

pub plain : (b : ℕ) → is_ascii_graphic b ≡ true → is_special b ≡ false → encode b ≡ byte_text b
plain b graphic is = rw (encode_ascii b (search (graphic, arith)), is) (search (graphic, arith))
