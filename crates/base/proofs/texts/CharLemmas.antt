-- The first character of a text is the piece of it that is a character.
use Rattle.std.proofs.Common.{◌≡◌, ℕ, ◌+◌, ◌-◌, ◌*◌, List, [], ◌∷◌, ◌++◌, refl, ap, ◌∙◌, arith, Bool, true, false, Some}
use Rattle.std.proofs.Common.{Option}
use Rattle.std.specs.Prelude.{◌==◌, ◌&&◌, nat_lt, nat_le}
use Rattle.std.specs.Char.{is_ascii_digit}
use Rattle.std.proofs.lemmas.Bool.{eqb-true, eqb-false}
use Rattle.std.proofs.lemmas.Bool.Decides.{nat_tests}
use Rattle.base.specs.texts.NameText.{Character, AreCharsOf, more, IsCharText, is_dot, is_printable, is_escaped}
use Rattle.base.specs.texts.NameText.{is_number, decimal_char, escaped_char, first_char}

-- the parts of one first character, or of another pair
pub same_first : {A B : Type 0} {x y : A × B} → Some x ≡ Some y → (x.0 ≡ y.0) × (x.1 ≡ y.1)
same_first {A} {B} {x} {y} h =
    let pair : x ≡ y = cc in
    (ap (λ (p : A × B). p.0) pair, ap (λ (p : A × B). p.1) pair)

-- what a piece is, before the rest
pub first_of_piece : {piece rest text : List ℕ} {c : Character} → IsCharText piece c → text ≡ piece ++ rest
    → first_char text ≡ Some (c, rest)
unfolding first_char escaped_char decimal_char
first_of_piece (is_dot e) is = rw (is, e) refl
first_of_piece (is_printable e low high dot backslash) is = rw (is, e) (grind (arith, nat_tests))
first_of_piece (is_escaped e ascii digit) is = rw (is, e) (grind (arith, nat_tests))
first_of_piece (is_number e decimal) is =
    let first = decimal.first in
    let second = decimal.second in
    let third = decimal.third in
    let small = decimal.byte in
    rw (is, e) (rw (first, second, third, ← decimal.is) (grind (arith, nat_tests)))

-- a piece, and the text after it
record Piece (front text : List ℕ) (c : Character) (rest : List ℕ) : Type 0 where
  piece : List ℕ
  spells : IsCharText (front ++ piece) c
  is : text ≡ piece ++ rest

-- a piece that is this character
piece_is : {front text rest : List ℕ} {c d : Character} (piece after : List ℕ) → IsCharText (front ++ piece) d
    → text ≡ piece ++ after → ◌≡◌ {A = Option (Character × List ℕ)} (Some (d, after)) (Some (c, rest))
    → Piece front text c rest
piece_is piece after spells is found =
    let same = same_first found in
    rw (← same.0, ← same.1) (record { piece = piece; spells = spells; is = is })

decimal_piece : (x : ℕ) (text : List ℕ) (c : Character) (rest : List ℕ) → is_ascii_digit x ≡ true
    → decimal_char x text ≡ Some (c, rest) → Piece (92 ∷ x ∷ []) text c rest
unfolding decimal_char
decimal_piece x [] c rest digit h = absurd (cc h)
decimal_piece x (y ∷ []) c rest digit h = absurd (cc h)
decimal_piece x (y ∷ z ∷ text) c rest digit h =
    go (is_ascii_digit y && is_ascii_digit z && nat_lt (100 * (x - 48) + 10 * (y - 48) + (z - 48)) 256) refl where
      go : (fits : Bool)
          → (is_ascii_digit y && is_ascii_digit z && nat_lt (100 * (x - 48) + 10 * (y - 48) + (z - 48)) 256) ≡ fits
          → Piece (92 ∷ x ∷ []) (y ∷ z ∷ text) c rest
      go true is = piece_is (y ∷ z ∷ []) text
          (is_number refl (record {
            first = digit;
            second = grind (arith, nat_tests);
            third = grind (arith, nat_tests);
            is = refl;
            byte = grind (arith, nat_tests);
          }))
          refl (rw is at h)
      go false is = absurd (cc (rw is at h))

escaped_piece : (text : List ℕ) (c : Character) (rest : List ℕ) → escaped_char text ≡ Some (c, rest)
    → Piece (92 ∷ []) text c rest
unfolding escaped_char
escaped_piece [] c rest h = absurd (cc h)
escaped_piece (x ∷ text) c rest h = go (is_ascii_digit x) (nat_lt x 128) refl refl where
  go : (digit ascii : Bool) → is_ascii_digit x ≡ digit → nat_lt x 128 ≡ ascii → Piece (92 ∷ []) (x ∷ text) c rest
  go true ascii is small =
      let p = decimal_piece x text c rest is (rw is at h) in
      record { piece = x ∷ p.piece; spells = p.spells; is = ap (λ (t : List ℕ). x ∷ t) p.is }
  go false true is small = piece_is (x ∷ []) text (is_escaped refl (grind (arith, nat_tests)) is) refl
      (rw (is, small) at h)
  go false false is small = absurd (cc (rw (is, small) at h))

pub piece_of_first : (text : List ℕ) (c : Character) (rest : List ℕ) → first_char text ≡ Some (c, rest)
    → (piece : List ℕ) × IsCharText piece c × (text ≡ piece ++ rest)
unfolding first_char
piece_of_first [] c rest h = absurd (cc h)
piece_of_first (b ∷ text) c rest h = go (b == 92) (b == 46) (nat_le 33 b && nat_le b 126) refl refl refl where
  whole : Piece [] (b ∷ text) c rest → (piece : List ℕ) × IsCharText piece c × (b ∷ text ≡ piece ++ rest)
  whole p = (p.piece, p.spells, p.is)

  go : (backslash dot shown : Bool) → (b == 92) ≡ backslash → (b == 46) ≡ dot → (nat_le 33 b && nat_le b 126) ≡ shown
      → (piece : List ℕ) × IsCharText piece c × (b ∷ text ≡ piece ++ rest)
  go true dot shown is is_it printable =
      let p = escaped_piece text c rest (rw is at h) in
      let code : b ≡ 92 = eqb-true b 92 is in
      (92 ∷ p.piece, p.spells, ap (λ (k : ℕ). k ∷ text) code ∙ ap (λ (t : List ℕ). 92 ∷ t) p.is)
  go false true shown is is_it printable = whole
      (piece_is (b ∷ []) text (is_dot (ap (λ (k : ℕ). k ∷ []) (eqb-true b 46 is_it))) refl (rw (is, is_it) at h))
  go false false true is is_it printable =
      whole (piece_is (b ∷ []) text (is_printable refl (grind (arith, nat_tests)) (grind (arith, nat_tests))
      (eqb-false b 46 is_it) (eqb-false b 92 is)) refl (rw (is, is_it, printable) at h))
  go false false false is is_it printable = absurd (cc (rw (is, is_it, printable) at h))

-- one character more before those of the rest
pub reads_more : {text rest : List ℕ} {c : Character} {cs : List Character} → first_char text ≡ Some (c, rest)
    → AreCharsOf rest cs → AreCharsOf text (c ∷ cs)
reads_more {text} {rest} {c} first reads = let p = piece_of_first text c rest first in more p.1 p.2 reads
