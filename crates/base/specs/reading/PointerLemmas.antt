-- Spellings that are written: a zero byte, a label, and a pointer (RFC 1035, 4.1.4).
use Rattle.base.specs.declared.limits.TheConstants.{MAX_LABEL, POINTER_LIMIT}
use Rattle.std.proofs.Common.{◌≡◌, ℕ, ◌+◌, ◌/◌, ◌%◌, ◌<◌, ◌≤◌, List, [], ◌∷◌, ◌++◌, length, length-append, refl, sym}
use Rattle.std.proofs.Common.{subst, append_assoc, arith}
use Rattle.std.specs.Int.{w16, to_be_bytes}
use Rattle.base.specs.names.Labels.{AreLabels, plain_len, size_of, wire_of}
use Rattle.base.specs.reading.Spelling.{ByteAt, BytesAt, ends, label, pointer, anywhere, target, Spelled}
use Rattle.base.specs.Words.{Stands}
use Rattle.base.specs.writing.SaysParts.{last_stands}
use Rattle.base.specs.WordLemmas.{first_stands, stands_inside, stands_at, stands_byte}

-- how many bytes labels are, each with its length before it
pub length-wire_of : (labels : List (List ℕ)) → length (wire_of labels) ≡ size_of labels
unfolding wire_of
length-wire_of [] = refl
length-wire_of (x ∷ xs) = omega (arith, length-append x (wire_of xs), length-wire_of xs)

stands_bytes : (xs B : List ℕ) (i : ℕ) → 0 < length xs → Stands xs B i → BytesAt anywhere B i xs
stands_bytes xs B i some s = record {
  inside = stands_inside xs B i some s;
  is = λ k inside. stands_at xs B i k inside s;
  seen = λ k inside. tt;
}

byte_first : (x : ℕ) (xs B : List ℕ) (i : ℕ) → Stands (x ∷ xs) B i → ByteAt anywhere B i x
byte_first x xs B i s =
    let same : i + 0 ≡ i = omega arith in
    subst (λ (j : ℕ). ByteAt anywhere B j x) same (stands_byte (x ∷ xs) B i 0 (omega arith) s)

-- where a zero byte stands, the root is spelled
pub root_stands : (B : List ℕ) (s i e : ℕ) → Stands (0 ∷ []) B i → e ≡ i + 1 → Spelled B [] s i e
root_stands B s i e stands is = rw is (ends (byte_first 0 [] B i stands))

-- where a label with its length stands, and labels are spelled after it, all are spelled
pub label_stands : (B x : List ℕ) (xs : List (List ℕ)) (s i e : ℕ) → 1 ≤ length x
    → length x ≤ MAX_LABEL → Stands (length x ∷ x) B i
    → Spelled B xs s (i + length (length x ∷ x)) e → Spelled B (x ∷ xs) s i e
label_stands B x xs s i e some small stands rest =
    let bytes : Stands x B (i + 1) = last_stands (length x ∷ []) x B i stands in
    let next : i + length (length x ∷ x) ≡ i + 1 + length x = omega arith in
    label (byte_first (length x) x B i stands) some small
    (stands_bytes x B (i + 1) (omega arith) bytes) (subst (λ (j : ℕ). Spelled B xs s j e) next rest)

-- where a pointer stands, the labels are spelled that are spelled at its target
pub pointer_stands : {B : List ℕ} {labels : List (List ℕ)} {s i t f e : ℕ} → t < s
    → t < POINTER_LIMIT → Stands (to_be_bytes w16 (49152 + t)) B i → Spelled B labels t t f
    → e ≡ i + 2 → Spelled B labels s i e
pointer_stands {B} {labels} {s} {i} {t} {f} {e} below near stands rest is =
    let n = 49152 + t in
    let same : target (n / 256 % 256) (n % 256) ≡ t = omega arith in
    let first : ByteAt anywhere B i (n / 256 % 256) =
    byte_first (n / 256 % 256) (n % 256 ∷ []) B i stands in
    let second : ByteAt anywhere B (i + 1) (n % 256) =
    stands_byte (to_be_bytes w16 n) B i 1 (omega arith) stands in
    rw is (pointer {s = s} first second (omega arith) (omega arith)
    (subst (λ (m : ℕ). Spelled B labels m m f) (sym same) rest))

-- labels and a zero byte, with no pointer
pub labels_stand : (B : List ℕ) (labels : List (List ℕ)) (s i : ℕ) → AreLabels labels
    → Stands (wire_of labels ++ 0 ∷ []) B i → Spelled B labels s i (i + plain_len labels)
unfolding wire_of
labels_stand B [] s i are stands = root_stands B s i (i + plain_len []) stands (omega arith)
labels_stand B (x ∷ xs) s i are stands =
    let all : Stands ((length x ∷ x) ++ (wire_of xs ++ 0 ∷ [])) B i = rw append_assoc at stands in
    let next = i + length (length x ∷ x) in
    let rest = labels_stand B xs s next are.1
    (last_stands (length x ∷ x) (wire_of xs ++ 0 ∷ []) B i all) in
    let end : next + plain_len xs ≡ i + plain_len (x ∷ xs) = omega arith in
    label_stands B x xs s i (i + plain_len (x ∷ xs)) are.0.some are.0.short
    (first_stands (length x ∷ x) (wire_of xs ++ 0 ∷ []) B i all)
    (subst (λ (e : ℕ). Spelled B xs s next e) end rest)
