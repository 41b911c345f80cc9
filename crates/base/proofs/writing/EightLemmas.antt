-- Bytes that are compared by eights.
use Rattle.std.proofs.Common.{◌≡◌, ℕ, ◌+◌, ◌-◌, ◌<◌, ◌≤◌, inl, inr, refl, ap, sym, ◌∙◌, arith, List, ◌++◌, length, take, drop, get_or}
use Rattle.std.proofs.Common.{length-drop, length-take}
use Rattle.std.proofs.Math.Seq.{take-add}
use Rattle.std.proofs.lemmas.Bool.{cases_lt}
use Rattle.std.proofs.lemmas.List.{get_or-take, get_or_past, take-append-drop, take-take, take_all}
use Rattle.std.proofs.lemmas.Nat.{le_bytes_8}
use Rattle.std.specs.Int.{from_le_bytes, w64}

-- each of the first bytes is a byte, or none
pub taken_bytes : (n : ℕ) (xs : List ℕ) → ((i : ℕ) → get_or xs i 0 < 256) → (i : ℕ) → get_or (take n xs) i 0 < 256
taken_bytes n xs bytes i = elim (cases_lt i n) [
  | inl before ↦ rw (get_or-take n xs i 0 before) (bytes i)
  | inr after ↦ rw (get_or_past (take n xs) i 0 (omega (arith, after, length-take n xs))) (omega arith)
]

-- eight bytes are those of their number
pub same_eight : (xs ys : List ℕ) → length xs ≡ 8 → length ys ≡ 8 → ((i : ℕ) → get_or xs i 0 < 256)
    → ((i : ℕ) → get_or ys i 0 < 256) → from_le_bytes w64 xs ≡ from_le_bytes w64 ys → xs ≡ ys
same_eight xs ys eight other_eight bytes other_bytes same =
    sym (le_bytes_8 xs (from_le_bytes w64 xs) eight bytes refl)
    ∙ le_bytes_8 ys (from_le_bytes w64 xs) other_eight other_bytes same

-- the next eight are the same too
pub eight_more : (at : ℕ) (xs ys : List ℕ) → take at xs ≡ take at ys → take 8 (drop at xs) ≡ take 8 (drop at ys)
    → take (at + 8) xs ≡ take (at + 8) ys
eight_more at xs ys same next =
    take-add at 8 xs ∙ ap (λ (front : List ℕ). front ++ take 8 (drop at xs)) same
    ∙ ap (λ (more : List ℕ). take at ys ++ more) next ∙ sym (take-add at 8 ys)

-- and the last eight, which may overlap the others: then all are
pub eight_last : (at last : ℕ) (xs ys : List ℕ) → last ≤ at → length xs ≡ last + 8 → length ys ≡ last + 8
    → take at xs ≡ take at ys → take 8 (drop last xs) ≡ take 8 (drop last ys) → xs ≡ ys
eight_last at last xs ys near long other_long same end =
    sym (take-append-drop last xs)
    ∙ ap (λ (front : List ℕ). front ++ drop last xs)
    (sym (take-take last at xs near) ∙ ap (take last) same ∙ take-take last at ys near)
    ∙ ap (λ (rest : List ℕ). take last ys ++ rest)
    (sym (take_all 8 (drop last xs) (omega (arith, length-drop last xs, long))) ∙ end
    ∙ take_all 8 (drop last ys) (omega (arith, length-drop last ys, other_long)))
    ∙ take-append-drop last ys

-- what a slice has from a place to its end
pub rest_whole : (at : ℕ) (xs : List ℕ) → take (length xs - at) (drop at xs) ≡ drop at xs
rest_whole at xs = take_all (length xs - at) (drop at xs) (omega (arith, length-drop at xs))
