-- Bytes and numbers that stand in a buffer.
use Rattle.std.proofs.Common.{◌≡◌, ℕ, ◌+◌, ◌^◌, ◌<◌, ◌≤◌, List, [], ◌++◌, length, take, drop, ap, sym, ◌∙◌, arith}
use Rattle.std.proofs.Common.{append_assoc, get_or}
use Rattle.std.proofs.lemmas.List.{length-take, length-drop, drop-drop, get_or-take, get_or-drop, take-append-drop}
use Rattle.std.proofs.Math.Seq.{drop-append_seam, take-append_seam}
use Rattle.std.proofs.lemmas.Nat.{from_be_bytes-to_be_bytes_2, from_be_bytes-to_be_bytes_4}
use Rattle.std.specs.Int.{w16, w32, to_be_bytes, from_be_bytes}
use Rattle.std.specs.Prelude.{slice_index}
use Rattle.base.specs.reading.Spelling.{ByteAt, anywhere}
use Rattle.base.specs.Words.{Stands, IsNumberAt}

-- bytes that stand in a buffer, one at least, lie inside it
pub stands_inside : (xs B : List ℕ) (i : ℕ) → 0 < length xs → Stands xs B i
    → i + length xs ≤ length B
stands_inside xs B i some s = omega (arith, simp (length-take, length-drop) at (ap length s.is))

-- the bytes of a number of two bytes are the number
pub number16_stands : (n : ℕ) (B : List ℕ) (i : ℕ) → n < 2 ^ 16 → Stands (to_be_bytes w16 n) B i
    → IsNumberAt w16 B i n
number16_stands n B i small s = record {
  inside = stands_inside (to_be_bytes w16 n) B i (omega arith) s;
  is = sym (ap (from_be_bytes w16) s.is ∙ from_be_bytes-to_be_bytes_2 n small);
}

-- where the four bytes of a number stand, the number does
pub number32_stands : (n : ℕ) (B : List ℕ) (i : ℕ) → n < 2 ^ 32 → Stands (to_be_bytes w32 n) B i
    → IsNumberAt w32 B i n
number32_stands n B i small s = record {
  inside = stands_inside (to_be_bytes w32 n) B i (omega arith) s;
  is = sym (ap (from_be_bytes w32) s.is ∙ from_be_bytes-to_be_bytes_4 n small);
}

-- each byte of what stands
pub stands_at : (xs B : List ℕ) (i k : ℕ) → k < length xs → Stands xs B i
    → slice_index B (i + k) ≡ slice_index xs k
stands_at xs B i k inside s =
    sym (get_or-drop i B k 0) ∙ sym (get_or-take (length xs) (drop i B) k 0 inside)
    ∙ ap (λ ys. get_or ys k 0) s.is

-- where bytes stand, each of them does
pub stands_byte : (xs B : List ℕ) (i k : ℕ) → k < length xs → Stands xs B i
    → ByteAt anywhere B (i + k) (slice_index xs k)
stands_byte xs B i k inside s = record {
  inside = omega (arith, stands_inside xs B i (omega arith) s);
  is = stands_at xs B i k inside s;
  seen = tt;
}

-- a part of what stands
pub stands_part : (xs ys zs B : List ℕ) (i : ℕ) → Stands (xs ++ (ys ++ zs)) B i
    → Stands ys B (i + length xs)
stands_part xs ys zs B i s =
    let n = length (xs ++ (ys ++ zs)) in
    let rest = drop n (drop i B) in
    let whole : drop i B ≡ (xs ++ (ys ++ zs)) ++ rest = sym (take-append-drop n (drop i B))
    ∙ ap (λ front. front ++ rest) s.is in
    let after : drop (i + length xs) B ≡ ys ++ (zs ++ rest) =
    sym (drop-drop (length xs) i B)
    ∙ ap (drop (length xs)) (whole ∙ append_assoc xs (ys ++ zs) rest)
    ∙ drop-append_seam xs ((ys ++ zs) ++ rest) ∙ append_assoc ys zs rest in
    record { is = ap (take (length ys)) after ∙ take-append_seam ys (zs ++ rest) }

-- where bytes stand, the first of them do
pub first_stands : (ys zs B : List ℕ) (i : ℕ) → Stands (ys ++ zs) B i → Stands ys B i
first_stands ys zs B i s =
    let same : i + 0 ≡ i = omega arith in
    rw same at (stands_part [] ys zs B i s)
