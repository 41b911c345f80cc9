-- Labels and the bytes that hold them, each with its length before it.
use Rattle.std.proofs.Common.{◌≡◌, ℕ, zero, suc, ◌+◌, ◌-◌, ◌<◌, ◌≤◌, List, [], ◌∷◌, ◌++◌, length, drop, get_or, refl}
use Rattle.std.proofs.Common.{ap, sym, ◌∙◌, append_assoc, add-one, arith, length-append, Bool, true}
use Rattle.std.proofs.lemmas.List.{append-nil, take_at, drop_at}
use Rattle.std.specs.List.{slice_range}
use Rattle.base.specs.names.Labels.{NameValue, size_of, AreLabels, IsWire, wire_of, cut_labels, labels_of}
use Rattle.base.specs.reading.PointerLemmas.{length-wire_of}

pub wire_of-append : (xs ys : List (List ℕ)) → wire_of (xs ++ ys) ≡ wire_of xs ++ wire_of ys
unfolding wire_of
wire_of-append [] ys = refl
wire_of-append (x ∷ xs) ys = ap (λ (rest : List ℕ). length x ∷ (x ++ rest)) (wire_of-append xs ys)
    ∙ ap (λ (rest : List ℕ). length x ∷ rest) (sym (append_assoc x (wire_of xs) (wire_of ys)))

pub wire_of-nil : wire_of [] ≡ []
unfolding wire_of
wire_of-nil = refl

pub labels_of-nil : labels_of [] ≡ []
unfolding labels_of cut_labels
labels_of-nil = refl

cut_labels-wire_of : (n : ℕ) (labels : List (List ℕ)) → length (wire_of labels) ≤ n
    → cut_labels n (wire_of labels) ≡ labels
unfolding wire_of cut_labels
cut_labels-wire_of zero [] short = refl
cut_labels-wire_of zero (x ∷ xs) short = absurd (omega arith)
cut_labels-wire_of (suc n) [] short = refl
cut_labels-wire_of (suc n) (x ∷ xs) short =
    let tail : cut_labels n (wire_of xs) ≡ xs = cut_labels-wire_of n xs (omega (arith, length-append x (wire_of xs))) in
    ap (λ (label : List ℕ). label ∷ cut_labels n (drop (length x) (x ++ wire_of xs)))
    (take_at x (wire_of xs) (length x) refl)
    ∙ ap (λ (rest : List ℕ). x ∷ cut_labels n rest) (drop_at x (wire_of xs) (length x) refl)
    ∙ ap (λ (rest : List (List ℕ)). x ∷ rest) tail

-- the bytes of labels hold those labels
pub labels_of-wire_of : (labels : List (List ℕ)) → labels_of (wire_of labels) ≡ labels
unfolding labels_of
labels_of-wire_of labels = cut_labels-wire_of (length (wire_of labels)) labels (omega arith)

pub labels_of_is : (bytes : List ℕ) (labels : List (List ℕ)) → bytes ≡ wire_of labels → labels_of bytes ≡ labels
labels_of_is bytes labels is = ap labels_of is ∙ labels_of-wire_of labels

pub nil_from_labels_of : (bytes : List ℕ) → wire_of (labels_of bytes) ≡ bytes → labels_of bytes ≡ [] → bytes ≡ []
nil_from_labels_of bytes whole none = sym whole ∙ ap wire_of none ∙ wire_of-nil

-- the absolute name without labels
pub is_root_name : (bytes : List ℕ) (absolute : Bool) → bytes ≡ [] → absolute ≡ true
    → ◌≡◌ {A = NameValue} (record { labels = labels_of bytes; absolute = absolute })
    (record { labels = []; absolute = true })
is_root_name bytes absolute none is =
    let name : List (List ℕ) → NameValue = λ labels. record { labels = labels; absolute = absolute } in
    let flagged : Bool → NameValue = λ flag. record { labels = []; absolute = flag } in
    ap name (ap labels_of none ∙ labels_of-nil) ∙ ap flagged is

pub AreLabels-append : (xs ys : List (List ℕ)) → AreLabels xs → AreLabels ys → AreLabels (xs ++ ys)
AreLabels-append [] ys some others = others
AreLabels-append (x ∷ xs) ys some others = (some.0, AreLabels-append xs ys some.1 others)

-- the bytes of the labels of a name of at most 255 bytes
pub IsWire-wire_of : (labels : List (List ℕ)) → AreLabels labels → size_of labels ≤ 254 → IsWire (wire_of labels)
IsWire-wire_of labels are short = record {
  whole = ap wire_of (labels_of-wire_of labels);
  labels = rw labels_of-wire_of are;
  short = omega (arith, length-wire_of labels);
}

pub IsWire-nil : IsWire []
IsWire-nil = rw (← wire_of-nil) (IsWire-wire_of [] tt (omega arith))

pub size_of-labels_of : (bytes : List ℕ) → IsWire bytes → size_of (labels_of bytes) ≡ length bytes
size_of-labels_of bytes wire = sym (length-wire_of (labels_of bytes)) ∙ ap length wire.whole

pushed : (bytes x : List ℕ) → wire_of (labels_of bytes) ≡ bytes
    → bytes ++ (length x ∷ x) ≡ wire_of (labels_of bytes ++ x ∷ [])
unfolding wire_of
pushed bytes x whole =
    ap (λ (rest : List ℕ). rest ++ (length x ∷ x)) (sym whole)
    ∙ ap (λ (rest : List ℕ). wire_of (labels_of bytes) ++ (length x ∷ rest)) (sym (append-nil x))
    ∙ sym (wire_of-append (labels_of bytes) (x ∷ []))

-- one label more
pub labels_of-push : (bytes x : List ℕ) → IsWire bytes → labels_of (bytes ++ (length x ∷ x)) ≡ labels_of bytes ++ x ∷ []
labels_of-push bytes x wire = ap labels_of (pushed bytes x wire.whole) ∙ labels_of-wire_of (labels_of bytes ++ x ∷ [])

pub IsWire-push : (bytes x : List ℕ) → IsWire bytes → 1 ≤ length x → length x ≤ 63 → length bytes + length x + 1 ≤ 254
    → IsWire (bytes ++ (length x ∷ x))
IsWire-push bytes x wire some small short = record {
  whole = ap wire_of (labels_of-push bytes x wire) ∙ sym (pushed bytes x wire.whole);
  labels = rw labels_of-push (AreLabels-append (labels_of bytes) (x ∷ []) wire.labels
      (record { some = some; short = small }, tt));
  short = omega (arith, length-append bytes (length x ∷ x));
}

-- the first of the labels ends at n
pub record IsFirst (bytes : List ℕ) (n : ℕ) : Type 0 where
  pub fits : n ≤ length bytes
  pub labels : labels_of bytes ≡ slice_range bytes 1 n ∷ labels_of (drop n bytes)
  pub parts : bytes ≡ (length (slice_range bytes 1 n) ∷ slice_range bytes 1 n) ++ drop n bytes
  pub whole : wire_of (labels_of (drop n bytes)) ≡ drop n bytes

first_at : (x : List ℕ) (xs : List (List ℕ)) (bytes : List ℕ) → bytes ≡ length x ∷ (x ++ wire_of xs)
    → labels_of bytes ≡ x ∷ xs → (n : ℕ) → n ≡ length x + 1 → IsFirst bytes n
first_at x xs bytes is labels n end =
    let front : slice_range bytes 1 n ≡ x = ap (λ (w : List ℕ). slice_range w 1 n) is
    ∙ take_at x (wire_of xs) (n - 1) (omega arith) in
    let rest : drop n bytes ≡ wire_of xs = ap (λ (w : List ℕ). drop n w) is
    ∙ ap (λ (k : ℕ). drop k (length x ∷ (x ++ wire_of xs))) (end ∙ add-one (length x))
    ∙ drop_at x (wire_of xs) (length x) refl in
    let others : labels_of (drop n bytes) ≡ xs = ap labels_of rest ∙ labels_of-wire_of xs in
    record {
      fits = omega (arith, ap length is, length-append x (wire_of xs));
      labels = labels ∙ ap (λ (y : List ℕ). y ∷ xs) (sym front)
          ∙ ap (λ (ys : List (List ℕ)). slice_range bytes 1 n ∷ ys) (sym others);
      parts = is ∙ ap (λ (y : List ℕ). (length y ∷ y) ++ wire_of xs) (sym front)
          ∙ ap (λ (ys : List ℕ). (length (slice_range bytes 1 n) ∷ slice_range bytes 1 n) ++ ys) (sym rest);
      whole = ap wire_of others ∙ sym rest;
    }

first_of : (labels : List (List ℕ)) (bytes : List ℕ) → labels_of bytes ≡ labels → bytes ≡ wire_of labels
    → 0 < length bytes → (n : ℕ) → n ≡ get_or bytes 0 0 + 1 → IsFirst bytes n
unfolding wire_of
first_of [] bytes labels is some n end = absurd (omega (arith, ap length is))
first_of (x ∷ xs) bytes labels is some n end =
    first_at x xs bytes is labels n (end ∙ ap (λ (w : List ℕ). get_or w 0 0 + 1) is)

-- bytes that hold labels begin with the length of the first
pub is_first : (bytes : List ℕ) → wire_of (labels_of bytes) ≡ bytes → 0 < length bytes → (n : ℕ)
    → n ≡ get_or bytes 0 0 + 1 → IsFirst bytes n
is_first bytes whole some n end = first_of (labels_of bytes) bytes refl (sym whole) some n end
