-- Spellings of names: they are unique, and they stay where the bytes that they look at do.
use Rattle.std.proofs.Common.{◌≡◌, ℕ, ◌+◌, ◌-◌, ◌<◌, ◌≤◌, inl, inr, List, ◌++◌, length, get_or, take}
use Rattle.std.proofs.Common.{drop, refl, ap, sym, ◌∙◌, subst, arith, length-append, length-take, length-drop}
use Rattle.std.proofs.Common.{get_or-take, get_or-drop}
use Rattle.std.proofs.lemmas.List.{get_or_append_left, get_or-append_right, get_or-take, get_or-drop}
use Rattle.std.proofs.lemmas.Grind.{same_number_lists}
use Rattle.base.specs.reading.Spelling.{ByteAt, BytesAt, SpelledIn, Spelled, KeepsSeen, ends, label, pointer, anywhere}
use Rattle.base.specs.reading.Spelling.{outside, target}

-- two runs of as many bytes at one place are the same
bytes_once : (looks looks' : ℕ → Type 0) (bytes : List ℕ) (i : ℕ) (x y : List ℕ) → BytesAt looks bytes i x
    → BytesAt looks' bytes i y → length x ≡ length y → x ≡ y
bytes_once looks looks' bytes i x y h g same =
    same_number_lists x y same (λ k below. sym (h.is k below) ∙ g.is k (omega arith))

pub spelled_once : {looks looks' : ℕ → Type 0} {bytes : List ℕ} {s i e f : ℕ} {xs ys : List (List ℕ)}
    → SpelledIn looks bytes s i xs e → SpelledIn looks' bytes s i ys f → (xs ≡ ys) × (e ≡ f)
spelled_once (ends h) (ends g) = (refl, refl)
spelled_once (ends h) (label g some small at rest) = absurd (omega (arith, h.is, g.is))
spelled_once (ends h) (pointer g next high below rest) = absurd (omega (arith, h.is, g.is))
spelled_once (label h some small at rest) (ends g) = absurd (omega (arith, h.is, g.is))
spelled_once (label h some small at rest) (pointer g next high below rest') = absurd (omega (arith, h.is, g.is))
spelled_once (pointer h next high below rest) (ends g) = absurd (omega (arith, h.is, g.is))
spelled_once (pointer h next high below rest) (label g some small at rest') = absurd (omega (arith, h.is, g.is))
spelled_once {looks} {looks'} {bytes} {s} {i} (label {x = x} h some small at rest)
    (label {e = f} {x = y} {xs = ys} g some' small' at' rest') =
    let same : length x ≡ length y = sym h.is ∙ g.is in
    let first : x ≡ y = bytes_once looks looks' bytes (i + 1) x y at at' same in
    let others = spelled_once rest (subst (λ (n : ℕ). SpelledIn looks' bytes s (i + 1 + n) ys f) (sym same) rest') in
    (cc (first, others.0), others.1)
spelled_once {looks} {looks'} {bytes} (pointer {b = b} {c = c} {e = e} h next high below rest)
    (pointer {b = b'} {c = c'} {e = f} {xs = ys} g next' high' below' rest') =
    let same : target b c ≡ target b' c' = omega (arith, h.is, g.is, next.is, next'.is) in
    let others = spelled_once rest (subst (λ (t : ℕ). SpelledIn looks' bytes t t ys f) (sym same) rest') in
    (others.0, refl)

byte_kept : {looks : ℕ → Type 0} {old new : List ℕ} {i b : ℕ} → KeepsSeen looks old new → ByteAt looks old i b
    → ByteAt looks new i b
byte_kept {i = i} kept h = record {
  inside = kept.inside i h.seen h.inside;
  is = kept.same i h.seen h.inside ∙ h.is;
  seen = h.seen;
}

bytes_kept : {looks : ℕ → Type 0} {old new : List ℕ} {i : ℕ} {x : List ℕ} → KeepsSeen looks old new → 1 ≤ length x
    → BytesAt looks old i x → BytesAt looks new i x
bytes_kept {i = i} {x = x} kept some h = record {
  inside = let last = kept.inside (i + (length x - 1)) (h.seen (length x - 1) (omega arith))
      (omega (arith, h.inside)) in omega arith;
  is = λ k below. kept.same (i + k) (h.seen k below) (omega (arith, h.inside)) ∙ h.is k below;
  seen = h.seen;
}

pub spelled_kept : {looks : ℕ → Type 0} {old new : List ℕ} {s i e : ℕ} {xs : List (List ℕ)} → KeepsSeen looks old new
    → SpelledIn looks old s i xs e → SpelledIn looks new s i xs e
spelled_kept kept (ends h) = ends (byte_kept kept h)
spelled_kept kept (label h some small at rest) =
    label (byte_kept kept h) some small (bytes_kept kept some at) (spelled_kept kept rest)
spelled_kept kept (pointer h next high below rest) =
    pointer (byte_kept kept h) (byte_kept kept next) high below (spelled_kept kept rest)

seen_longer : (looks : ℕ → Type 0) (bytes more : List ℕ) → KeepsSeen looks bytes (bytes ++ more)
seen_longer looks bytes more = record {
  inside = λ i seen below. omega (arith, length-append bytes more);
  same = λ i seen below. get_or_append_left bytes more 0 i below;
}

pub spelled_longer : {looks : ℕ → Type 0} {bytes : List ℕ} {s i e : ℕ} {xs : List (List ℕ)} (more : List ℕ)
    → SpelledIn looks bytes s i xs e → SpelledIn looks (bytes ++ more) s i xs e
spelled_longer {looks} {bytes} more spelled = spelled_kept (seen_longer looks bytes more) spelled

patch_below : (from to i : ℕ) (bytes patch : List ℕ) → i < from → to ≤ length bytes → from ≤ to
    → get_or (take from bytes ++ (patch ++ drop to bytes)) i 0 ≡ get_or bytes i 0
patch_below from to i bytes patch below fits order =
    let short : i < length (take from bytes) = omega (arith, length-take from bytes) in
    get_or_append_left (take from bytes) (patch ++ drop to bytes) 0 i short ∙ get_or-take from bytes i 0 below

patch_above : (from to i : ℕ) (bytes patch : List ℕ) → from + length patch ≡ to → to ≤ length bytes → to ≤ i
    → get_or (take from bytes ++ (patch ++ drop to bytes)) i 0 ≡ get_or bytes i 0
patch_above from to i bytes patch is fits above =
    let front : length (take from bytes) ≡ from = omega (arith, length-take from bytes) in
    get_or-append_right (take from bytes) (patch ++ drop to bytes) from i 0 front (omega arith)
    ∙ get_or-append_right patch (drop to bytes) (length patch) (i - from) 0 refl (omega arith)
    ∙ get_or-drop to bytes (i - from - length patch) 0
    ∙ ap (λ (k : ℕ). get_or bytes k 0) (omega arith)

seen_patched : (from to : ℕ) (bytes patch : List ℕ) → from + length patch ≡ to → to ≤ length bytes
    → KeepsSeen (outside from to) bytes (take from bytes ++ (patch ++ drop to bytes))
seen_patched from to bytes patch is fits = record {
  inside = λ i seen below. omega (
    arith,
    length-append (take from bytes) (patch ++ drop to bytes),
    length-append patch (drop to bytes),
    length-take from bytes,
    length-drop to bytes,
  );
  same = λ i seen below. elim seen [
    | inl before ↦ patch_below from to i bytes patch before fits
        (omega arith)
    | inr after ↦ patch_above from to i bytes patch is fits after
  ];
}

pub spelled_patched : (from to : ℕ) (bytes patch : List ℕ) {s i e : ℕ} {xs : List (List ℕ)} → from + length patch ≡ to
    → to ≤ length bytes
    → SpelledIn (outside from to) bytes s i xs e
    → SpelledIn (outside from to) (take from bytes ++ (patch ++ drop to bytes)) s i xs e
spelled_patched from to bytes patch is fits spelled = spelled_kept (seen_patched from to bytes patch is fits) spelled

byte_anywhere : {looks : ℕ → Type 0} {bytes : List ℕ} {i b : ℕ} → ByteAt looks bytes i b → ByteAt anywhere bytes i b
byte_anywhere h = record { inside = h.inside; is = h.is; seen = tt }

bytes_anywhere : {looks : ℕ → Type 0} {bytes : List ℕ} {i : ℕ} {x : List ℕ} → BytesAt looks bytes i x
    → BytesAt anywhere bytes i x
bytes_anywhere h = record { inside = h.inside; is = h.is; seen = λ k below. tt }

pub spelled_anywhere : {looks : ℕ → Type 0} {bytes : List ℕ} {s i e : ℕ} {xs : List (List ℕ)}
    → SpelledIn looks bytes s i xs e → Spelled bytes xs s i e
spelled_anywhere (ends h) = ends (byte_anywhere h)
spelled_anywhere (label h some small at rest) =
    label (byte_anywhere h) some small (bytes_anywhere at) (spelled_anywhere rest)
spelled_anywhere (pointer h next high below rest) =
    pointer (byte_anywhere h) (byte_anywhere next) high below (spelled_anywhere rest)
