-- The string of an item is what its pieces say.
use Rattle.std.proofs.Common.{◌≡◌, ◌≢◌, ℕ, zero, suc, ◌+◌, ◌-◌, ◌*◌, ◌<◌, ◌≤◌, List, [], ◌∷◌, length, refl, ap, sym}
use Rattle.std.proofs.Common.{◌∙◌, subst, arith, Bool, true, false, Option, Some, None}
use Rattle.std.specs.Prelude.{◌↔◌, ◌==◌, nat_le, nat_lt, if◌then◌else◌}
use Rattle.std.specs.Char.{is_ascii_digit}
use Rattle.std.proofs.lemmas.Bool.Decides.{nat_tests}
use Rattle.base_data.proofs.StringItemLemmas.{before-nil}
use Rattle.base_data.specs.StringItems.{no_escape, IsStringText, is_end, is_plain, is_escaped, is_number}
use Rattle.base_data.specs.StringItems.{put_before_all, if_short, string_item, unescaped}

-- the number of three digits, as it is read
abbrev number_said : ℕ → ℕ → ℕ → ℕ
number_said a b c = ((a - 48) * 10 + (b - 48)) * 10 + (c - 48)

-- what the digits of a number read as
digits_read : (a b c : ℕ) (rest : List ℕ) → is_ascii_digit a ≡ true → is_ascii_digit b ≡ true → is_ascii_digit c ≡ true
    → (fits : Bool) → nat_lt (number_said a b c) 256 ≡ fits
    → unescaped no_escape (92 ∷ a ∷ b ∷ c ∷ rest)
    ≡ (if fits then put_before_all (number_said a b c ∷ []) (unescaped no_escape rest) else None)
unfolding unescaped
digits_read a b c rest first second third true fits =
    rw (first, second, third, fits) (before-nil _ ∙ before-nil _ ∙ before-nil _)
digits_read a b c rest first second third false fits = rw (first, second, third, fits) refl

escaped_read : (c : ℕ) (rest : List ℕ) → is_ascii_digit c ≡ false
    → unescaped no_escape (92 ∷ c ∷ rest) ≡ put_before_all (c ∷ []) (unescaped no_escape rest)
unfolding unescaped
escaped_read c rest digit = rw digit (before-nil _)

plain_read : (c : ℕ) (rest : List ℕ) → (c == 92) ≡ false
    → unescaped no_escape (c ∷ rest) ≡ put_before_all (c ∷ []) (unescaped no_escape rest)
unfolding unescaped
plain_read c rest plain = rw plain refl

end_read : unescaped no_escape [] ≡ Some []
unfolding unescaped
end_read = refl

said_is_read : {text bytes : List ℕ} → IsStringText text bytes → unescaped no_escape text ≡ Some bytes
said_is_read is_end = end_read
said_is_read (is_plain {c} {text} {bytes} other says) =
    plain_read c text (grind (arith, nat_tests)) ∙ ap (put_before_all (c ∷ [])) (said_is_read says)
said_is_read (is_escaped {c} {text} {bytes} digit says) =
    escaped_read c text digit ∙ ap (put_before_all (c ∷ [])) (said_is_read says)
said_is_read (is_number {a} {b} {c} {n} {text} {bytes} first second third is small says) =
    let value : number_said a b c ≡ n = omega arith in
    let fits : nat_lt (number_said a b c) 256 ≡ true = grind (arith, nat_tests) in
    digits_read a b c text first second third true fits ∙ rw value (ap (put_before_all (n ∷ [])) (said_is_read says))

-- a byte in front of what is read
record IsAfter (b : ℕ) (read : Option (List ℕ)) (bytes : List ℕ) : Type 0 where
  rest : List ℕ
  is : read ≡ Some rest
  all : b ∷ rest ≡ bytes

after : (b : ℕ) (read : Option (List ℕ)) (bytes : List ℕ) → put_before_all (b ∷ []) read ≡ Some bytes
    → IsAfter b read bytes
after b None bytes e = absurd cc
after b (Some rest) bytes e = record { rest = rest; is = refl; all = cc }

no_bytes : {bytes : List ℕ} → None ≡ Some bytes → ⊥
no_bytes e = cc

-- what is read of a text up to a length is what its pieces say
abbrev Says : ℕ → Type 0
Says n = (text bytes : List ℕ) → length text ≤ n → unescaped no_escape text ≡ Some bytes → IsStringText text bytes

plain_says : (n : ℕ) → Says n → (c : ℕ) (text bytes : List ℕ) → length text ≤ n → (c == 92) ≡ false
    → unescaped no_escape (c ∷ text) ≡ Some bytes → IsStringText (c ∷ text) bytes
plain_says n says c text bytes short plain read =
    let other : c ≢ 92 = λ (e : c ≡ 92). grind (arith, nat_tests) in
    let b = after c (unescaped no_escape text) bytes (sym (plain_read c text plain) ∙ read) in
    subst (IsStringText (c ∷ text)) b.all (is_plain other (says text b.rest short b.is))

escaped_says : (n : ℕ) → Says n → (c : ℕ) (text bytes : List ℕ) → length text ≤ n → is_ascii_digit c ≡ false
    → unescaped no_escape (92 ∷ c ∷ text) ≡ Some bytes → IsStringText (92 ∷ c ∷ text) bytes
escaped_says n says c text bytes short digit read =
    let b = after c (unescaped no_escape text) bytes (sym (escaped_read c text digit) ∙ read) in
    subst (IsStringText (92 ∷ c ∷ text)) b.all (is_escaped digit (says text b.rest short b.is))

-- fewer than three digits
unfinished : (a : ℕ) → is_ascii_digit a ≡ true → unescaped no_escape (92 ∷ a ∷ []) ≡ None
unfolding unescaped
unfinished a first = rw first refl

unfinished_two : (a b : ℕ) → is_ascii_digit a ≡ true → (digit : Bool) → is_ascii_digit b ≡ digit
    → unescaped no_escape (92 ∷ a ∷ b ∷ []) ≡ None
unfolding unescaped
unfinished_two a b first true second = rw (first, second) refl
unfinished_two a b first false second = rw (first, second) refl

no_second : (a b : ℕ) (rest : List ℕ) → is_ascii_digit a ≡ true → is_ascii_digit b ≡ false
    → unescaped no_escape (92 ∷ a ∷ b ∷ rest) ≡ None
unfolding unescaped
no_second a b rest first second = rw (first, second) refl

no_third : (a b c : ℕ) (rest : List ℕ) → is_ascii_digit a ≡ true → is_ascii_digit b ≡ true → is_ascii_digit c ≡ false
    → unescaped no_escape (92 ∷ a ∷ b ∷ c ∷ rest) ≡ None
unfolding unescaped
no_third a b c rest first second third = rw (first, second, third) refl

only_backslash : unescaped no_escape (92 ∷ []) ≡ None
unfolding unescaped
only_backslash = refl

number_says : (n : ℕ) → Says n → (a : ℕ) (text bytes : List ℕ) → length text ≤ n → is_ascii_digit a ≡ true
    → unescaped no_escape (92 ∷ a ∷ text) ≡ Some bytes → IsStringText (92 ∷ a ∷ text) bytes
number_says n says a [] bytes short first read = absurd (no_bytes (sym (unfinished a first) ∙ read))
number_says n says a (b ∷ []) bytes short first read =
    absurd (no_bytes (sym (unfinished_two a b first (is_ascii_digit b) refl) ∙ read))
number_says n says a (b ∷ c ∷ text) bytes short first read =
    go (is_ascii_digit b) (is_ascii_digit c) (nat_lt (number_said a b c) 256) refl refl refl where
      go : (second third fits : Bool) → is_ascii_digit b ≡ second → is_ascii_digit c ≡ third
          → nat_lt (number_said a b c) 256 ≡ fits → IsStringText (92 ∷ a ∷ b ∷ c ∷ text) bytes
      go false third fits second_is third_is fits_is =
          absurd (no_bytes (sym (no_second a b (c ∷ text) first second_is) ∙ read))
      go true false fits second_is third_is fits_is =
          absurd (no_bytes (sym (no_third a b c text first second_is third_is) ∙ read))
      go true true false second_is third_is fits_is =
          absurd (no_bytes (sym (digits_read a b c text first second_is third_is false fits_is) ∙ read))
      go true true true second_is third_is fits_is =
          let value : number_said a b c ≡ (a - 48) * 100 + (b - 48) * 10 + (c - 48) = omega arith in
          let small : number_said a b c < 256 = grind (arith, nat_tests) in
          let b' = after (number_said a b c) (unescaped no_escape text) bytes
          (sym (digits_read a b c text first second_is third_is true fits_is) ∙ read) in
          subst (IsStringText (92 ∷ a ∷ b ∷ c ∷ text)) b'.all
          (is_number first second_is third_is value small (says text b'.rest (omega arith) b'.is))

backslash_says : (n : ℕ) → Says n → (text bytes : List ℕ) → length text ≤ n
    → unescaped no_escape (92 ∷ text) ≡ Some bytes → IsStringText (92 ∷ text) bytes
backslash_says n says [] bytes short read = absurd (no_bytes (sym only_backslash ∙ read))
backslash_says n says (a ∷ text) bytes short read = go (is_ascii_digit a) refl where
  go : (digit : Bool) → is_ascii_digit a ≡ digit → IsStringText (92 ∷ a ∷ text) bytes
  go true digit = number_says n says a text bytes (omega arith) digit read
  go false digit = escaped_says n says a text bytes (omega arith) digit read

-- the first piece, and what is after it
first_says : (n : ℕ) → Says n → (c : ℕ) (text bytes : List ℕ) → length text ≤ n
    → unescaped no_escape (c ∷ text) ≡ Some bytes → IsStringText (c ∷ text) bytes
first_says n says c text bytes short read = go (c == 92) refl where
  go : (escape : Bool) → (c == 92) ≡ escape → IsStringText (c ∷ text) bytes
  go true is =
      let same : 92 ≡ c = grind (arith, nat_tests) in
      let begun = ap (λ (b : ℕ). unescaped no_escape (b ∷ text)) same ∙ read in
      subst (λ (b : ℕ). IsStringText (b ∷ text) bytes) same (backslash_says n says text bytes short begun)
  go false is = plain_says n says c text bytes short is read

end_says : (bytes : List ℕ) → unescaped no_escape [] ≡ Some bytes → IsStringText [] bytes
end_says bytes read = subst (IsStringText []) (same (sym end_read ∙ read)) is_end where
  same : Some [] ≡ Some bytes → [] ≡ bytes
  same e = cc

read_says : (n : ℕ) → Says n
read_says n [] bytes short read = end_says bytes read
read_says zero (c ∷ text) bytes short read = absurd (omega arith)
read_says (suc n) (c ∷ text) bytes short read = first_says n (read_says n) c text bytes (omega arith) read

short_is : (r : Option (List ℕ)) (bytes : List ℕ) → if_short r ≡ Some bytes → (r ≡ Some bytes) × (length bytes ≤ 255)
short_is None bytes e = absurd (no_bytes e)
short_is (Some xs) bytes e = go (nat_le (length xs) 255) refl where
  go : (short : Bool) → nat_le (length xs) 255 ≡ short → (Some xs ≡ Some bytes) × (length bytes ≤ 255)
  go true is =
      let same : Some xs ≡ Some bytes = sym (short_is_so is) ∙ e in
      let fits : length xs ≤ 255 = grind (arith, nat_tests) in
      (same, subst (λ (ys : List ℕ). length ys ≤ 255) (some_of same) fits) where
        short_is_so : nat_le (length xs) 255 ≡ true → if_short (Some xs) ≡ Some xs
        short_is_so is = rw is refl

        some_of : Some xs ≡ Some bytes → xs ≡ bytes
        some_of e = cc
  go false is = absurd (no_bytes (sym (not_short is) ∙ e)) where
    not_short : nat_le (length xs) 255 ≡ false → if_short (Some xs) ≡ None
    not_short is = rw is refl

pub string_grammar : (text bytes : List ℕ)
    → (string_item text ≡ Some bytes) ↔ (IsStringText text bytes × (length bytes ≤ 255))
unfolding string_item
string_grammar text bytes = (
  λ read. let s = short_is (unescaped no_escape text) bytes read in
      (read_says (length text) text bytes (omega arith) s.0, s.1),
  λ says. let fits : nat_le (length bytes) 255 ≡ true = grind (arith, nat_tests, says.1) in
      ap if_short (said_is_read says.0) ∙ rw fits refl,
)
