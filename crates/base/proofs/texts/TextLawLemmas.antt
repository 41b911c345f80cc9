-- The text of a name names it, and a text names one name.
use Rattle.std.proofs.Common.{◌≡◌, ◌≢◌, ℕ, ◌+◌, ◌-◌, ◌*◌, ◌/◌, ◌%◌, ◌<◌, ◌≤◌, List, [], ◌∷◌, ◌++◌, length, map, refl}
use Rattle.std.proofs.Common.{ap, sym, ◌∙◌, subst, arith, append_assoc, Bool, true, false, Some, None}
use Rattle.std.specs.Prelude.{All, nat_lt}
use Rattle.std.specs.Char.{is_ascii_digit}
use Rattle.std.proofs.lemmas.Bool.Decides.{nat_tests}
use Rattle.std.proofs.lemmas.List.{append-nil}
use Rattle.base.specs.names.Labels.{NameValue, AreLabels, plain_len}
use Rattle.base.specs.texts.NameText.{Character, dot, byte, AreCharsOf, none, IsLabelsText, IsNameText, is_root}
use Rattle.base.specs.texts.NameText.{is_absolute, is_relative, byte_text, decimal_char, decimal_text, dotted}
use Rattle.base.specs.texts.NameText.{escaped_char, first_char, label_text, labels_text, name_text}
use Rattle.base.proofs.texts.CharLemmas.{reads_more}
use Rattle.base.proofs.texts.NamedLemmas.{reads_at}
use Rattle.base.proofs.texts.ParseLemmas.{text_pieces}
use Rattle.std.proofs.lemmas.List.Elements.{All-head, All-tail}

digit_code : (n : ℕ) → n ≤ 9 → is_ascii_digit (48 + n) ≡ true
digit_code n low = grind (arith, nat_tests)

-- a backslash and three digits are the byte of that number
first_decimal : (b : ℕ) (rest : List ℕ) → b < 256 → first_char (decimal_text b ++ rest) ≡ Some (byte b, rest)
unfolding first_char escaped_char decimal_char
first_decimal b rest small =
    let hundreds = digit_code (b / 100) (omega arith) in
    let tens = digit_code (b / 10 % 10) (omega arith) in
    let ones = digit_code (b % 10) (omega arith) in
    let number : 100 * (48 + b / 100 - 48) + 10 * (48 + b / 10 % 10 - 48) + (48 + b % 10 - 48) ≡ b = omega arith in
    let fits : nat_lt b 256 ≡ true = grind (arith, nat_tests) in
    rw (hundreds, tens, ones, number, fits) refl

-- the text of a byte is that byte
first_byte_text : (b : ℕ) (rest : List ℕ) → b < 256 → first_char (byte_text b ++ rest) ≡ Some (byte b, rest)
unfolding first_char escaped_char
first_byte_text b rest small = grind (arith, nat_tests, first_decimal b rest small)

-- the text of labels reads as their characters, with others after them
label_reads : (x rest : List ℕ) (cs : List Character) → All (λ b. b < 256) x → AreCharsOf rest cs
    → AreCharsOf (label_text x ++ rest) (map byte x ++ cs)
label_reads [] rest cs bytes reads = reads
label_reads (b ∷ x) rest cs bytes reads =
    rw append_assoc (reads_more (first_byte_text b (label_text x ++ rest) (All-head (λ (c : ℕ). c < 256) b x bytes))
    (label_reads x rest cs (All-tail (λ (c : ℕ). c < 256) b x bytes) reads))

first_dot : (rest : List ℕ) → first_char (46 ∷ rest) ≡ Some (dot, rest)
unfolding first_char
first_dot rest = refl

labels_read : (xs : List (List ℕ)) (rest : List ℕ) (cs : List Character) → All (All (λ b. b < 256)) xs
    → AreCharsOf rest cs → AreCharsOf (labels_text xs ++ rest) (dotted xs ++ cs)
labels_read [] rest cs bytes reads = reads
labels_read (x ∷ []) rest cs bytes reads = label_reads x rest cs (All-head (All (λ (c : ℕ). c < 256)) x [] bytes) reads
labels_read (x ∷ y ∷ ys) rest cs bytes reads =
    simp append_assoc (label_reads x (46 ∷ (labels_text (y ∷ ys) ++ rest)) (dot ∷ (dotted (y ∷ ys) ++ cs))
    (All-head (All (λ (c : ℕ). c < 256)) x (y ∷ ys) bytes) (reads_more (first_dot (labels_text (y ∷ ys) ++ rest))
    (labels_read (y ∷ ys) rest cs (All-tail (All (λ (c : ℕ). c < 256)) x (y ∷ ys) bytes) reads)))

dot_reads : AreCharsOf (46 ∷ []) (dot ∷ [])
dot_reads = reads_more (first_dot []) none

-- the text of labels is those labels
labels_text_is : (labels : List (List ℕ)) (absolute : Bool) → All (All (λ b. b < 256)) labels → AreLabels labels
    → plain_len labels ≤ 255 → labels ≢ []
    → IsLabelsText (name_text (record { labels = labels; absolute = absolute })) labels absolute
labels_text_is labels true bytes are short some =
    record { reads = labels_read labels (46 ∷ []) (dot ∷ []) bytes dot_reads; some = some; each = are; short = short }
labels_text_is labels false bytes are short some =
    record { reads = labels_read labels [] [] bytes none; some = some; each = are; short = short }

-- the label @ has a backslash in its text
not_at : (labels : List (List ℕ)) → IsLabelsText (name_text (record { labels = labels; absolute = false })) labels false
    → name_text (record { labels = labels; absolute = false }) ≢ 64 ∷ []
not_at labels is at =
    let one : ◌≡◌ {A = List (List ℕ)} ((64 ∷ []) ∷ []) labels =
    text_pieces is (subst (λ (text : List ℕ). AreCharsOf text (byte 64 ∷ [])) (sym at) reads_at)
    ∙ append-nil labels in
    let text : ◌≡◌ {A = List ℕ} (92 ∷ 64 ∷ []) (64 ∷ []) =
    ap (λ (ls : List (List ℕ)). name_text (record { labels = ls; absolute = false })) one ∙ at in
    omega (arith, ap length text)

-- a name's text names it
pub name_text_names : (n : NameValue) → All (All (λ b. b < 256)) n.labels → AreLabels n.labels
    → plain_len n.labels ≤ 255 → (n.absolute ≡ false → n.labels ≢ []) → IsNameText (name_text n) None n
name_text_names n bytes are short some = go n.labels n.absolute bytes are short some where
  go : (labels : List (List ℕ)) (absolute : Bool) → All (All (λ b. b < 256)) labels → AreLabels labels
      → plain_len labels ≤ 255
      → (absolute ≡ false → labels ≢ []) → IsNameText (name_text (record { labels = labels; absolute = absolute })) None
      (record { labels = labels; absolute = absolute })
  go [] true bytes are short some = is_root refl
  go [] false bytes are short some = absurd (some refl refl)
  go (x ∷ xs) true bytes are short some = is_absolute (labels_text_is (x ∷ xs) true bytes are short (λ e. absurd cc))
  go (x ∷ xs) false bytes are short some =
      let is = labels_text_is (x ∷ xs) false bytes are short (some refl) in
      is_relative refl (not_at (x ∷ xs) is) is
