-- What is read as bytes.
use Rattle.std.proofs.Common.{◌≡◌, ℕ, ◌+◌, ◌<◌, ◌≤◌, List, [], ◌∷◌, length, take, drop, get_or, Ok, refl, ap, sym, ◌∙◌}
use Rattle.std.proofs.Common.{arith}
use Rattle.std.proofs.lemmas.Bool.{ltb-false}
use Rattle.std.proofs.lemmas.List.{length-take, length-drop, get_or-take, get_or-drop}
use Rattle.std.specs.Int.{w16, w32, from_be_bytes}
use Rattle.std.specs.Prelude.{nat_lt}
use Rattle.base.proofs.reading.ReadLemmas.{guard_ok}
use Rattle.base.specs.reading.Reading.{bytes_at}
use Rattle.base.specs.reading.Spelling.{ByteAt, anywhere}
use Rattle.base.specs.Words.{IsNumberAt}
use Rattle.base.specs.declared.error.decode_error.DecodeError.TheVariants as faults

pub record ReadsBytes (len : ℕ) (B : List ℕ) (i : ℕ) (r : List ℕ × ℕ) : Type 0 where
  pub inside : i + len ≤ length B
  pub is : r.0 ≡ take len (drop i B)
  pub counted : length r.0 ≡ len
  pub after : r.1 ≡ i + len

pub bytes_is : (len : ℕ) (B : List ℕ) (i : ℕ) (r : List ℕ × ℕ) → bytes_at len B i ≡ Ok r → ReadsBytes len B i r
bytes_is len B i r is =
    let p = guard_ok (nat_lt (length B) (i + len)) faults.InsufficientBytes (take len (drop i B), i + len) r is in
    let fits : i + len ≤ length B = ltb-false (length B) (i + len) p.test_is in
    let front : r.0 ≡ take len (drop i B) = sym (ap (λ (x : List ℕ × ℕ). x.0) p.same) in
    record {
      inside = fits;
      is = front;
      counted = omega (arith, ap length front, length-take len (drop i B), length-drop i B);
      after = sym (ap (λ (x : List ℕ × ℕ). x.1) p.same);
    }

-- ---- numbers among the bytes that were read

two : (xs : List ℕ) → 2 ≤ length xs → take 2 xs ≡ get_or xs 0 0 ∷ get_or xs 1 0 ∷ []
two (a ∷ b ∷ rest) some = refl
two xs some = absurd (omega arith)

four : (xs : List ℕ) → 4 ≤ length xs → take 4 xs ≡ get_or xs 0 0 ∷ get_or xs 1 0 ∷ get_or xs 2 0 ∷ get_or xs 3 0 ∷ []
four (a ∷ b ∷ c ∷ d ∷ rest) some = refl
four xs some = absurd (omega arith)

module _ {len : ℕ} {B : List ℕ} {i : ℕ} {r : List ℕ × ℕ} (s : ReadsBytes len B i r) where
  -- a byte that was read, as the byte of what stands after a place
  byte : (k j : ℕ) → k + j < len → get_or r.0 (k + j) 0 ≡ get_or (drop (i + k) B) j 0
  byte k j below =
      let place : i + (k + j) ≡ i + k + j = omega arith in
      ap (λ (ys : List ℕ). get_or ys (k + j) 0) s.is ∙ get_or-take len (drop i B) (k + j) 0 below
      ∙ get_or-drop i B (k + j) 0 ∙ ap (λ n. get_or B n 0) place ∙ sym (get_or-drop (i + k) B j 0)

  room : (k n : ℕ) → k + n ≤ len → n ≤ length (drop (i + k) B)
  room k n fits = omega (arith, fits, s.inside, length-drop (i + k) B)

  pub byte_among : (k : ℕ) → k < len → ByteAt anywhere B (i + k) (get_or r.0 k 0)
  byte_among k below = record {
    inside = omega (arith, below, s.inside);
    is = sym (ap (λ (ys : List ℕ). get_or ys k 0) s.is ∙ get_or-take len (drop i B) k 0 below ∙ get_or-drop i B k 0);
    seen = tt;
  }

  pub number16_among : (k : ℕ) → k + 2 ≤ len
      → IsNumberAt w16 B (i + k) (from_be_bytes w16 (get_or r.0 (k + 0) 0 ∷ get_or r.0 (k + 1) 0 ∷ []))
  number16_among k fits =
      let all = two (drop (i + k) B) (room k 2 fits) in
      let first = byte k 0 (omega (arith, fits)) in
      let second = byte k 1 (omega (arith, fits)) in
      record {
        inside = omega (arith, fits, s.inside);
        is = rw (first, second) (ap (from_be_bytes w16) (sym all));
      }

  pub number32_among : (k : ℕ) → k + 4 ≤ len
      → IsNumberAt w32 B (i + k) (from_be_bytes w32
      (get_or r.0 (k + 0) 0 ∷ get_or r.0 (k + 1) 0 ∷ get_or r.0 (k + 2) 0 ∷ get_or r.0 (k + 3) 0 ∷ []))
  number32_among k fits =
      let all = four (drop (i + k) B) (room k 4 fits) in
      let first = byte k 0 (omega (arith, fits)) in
      let second = byte k 1 (omega (arith, fits)) in
      let third = byte k 2 (omega (arith, fits)) in
      let last = byte k 3 (omega (arith, fits)) in
      record {
        inside = omega (arith, fits, s.inside);
        is = rw (first, second, third, last) (ap (from_be_bytes w32) (sym all));
      }
