-- Labels in lower case, and the order of labels from the last on.
use Rattle.std.proofs.Common.{◌≡◌, ℕ, zero, suc, ◌+◌, ◌-◌, ◌≤◌, ◌⊎◌, inl, inr, List, [], ◌∷◌, ◌++◌, ◌<◌, get_or}
use Rattle.std.proofs.Common.{length, map, reverse, take, drop, refl, ap, sym, ◌∙◌, arith, Bool, true, false}
use Rattle.std.proofs.Common.{length-append, length-drop, min, subst}
use Rattle.std.proofs.Math.Nat.{min-le_left, min-le_right, min-eq_left, min-eq_right}
use Rattle.std.proofs.lemmas.Bool.Decides.{nat_tests}
use Rattle.std.specs.declared.cmp.Ordering.{Ordering}
use Rattle.std.specs.declared.cmp.Ordering.TheVariants.{Less, Equal, Greater}
use Rattle.std.specs.Cmp.{Equal-is}
use Rattle.std.specs.Cmp.Lexicographic.{bytes_decides, slice_cmp}
use Rattle.std.specs.Ordering.{bool_cmp, is_ne, nat_cmp, ordering_then}
use Rattle.std.specs.Prelude.{IsTrue, ◌↔◌, nat_lt}
use Rattle.std.specs.Bool.{Decides, one_answer}
use Rattle.std.specs.Char.{to_ascii_lowercase}
use Rattle.std.proofs.lemmas.Bool.{cond-true, false≢true, lt-ltb}
use Rattle.std.proofs.lemmas.Slice.Eq.{ends_is}
use Rattle.std.proofs.lemmas.List.{map-append, drop-map, drop_more, get_or-take, length-map, length-reverse}
use Rattle.std.proofs.lemmas.List.{length-take-le, reverse-append, take-append-drop, drop_at, drop_all, drop-drop}
use Rattle.base.specs.names.Labels.{NameValue, AreLabels, IsWire, wire_of, labels_of}
use Rattle.base.specs.names.NameOrder.{folded, folded_labels, is_zone_of, lowered, same_labels, labels_cmp, name_cmp}
use Rattle.base.specs.names.NameOrderLaws.{labels_decide, labels_tie}
use Rattle.base.proofs.names.LabelLemmas.{IsWire-wire_of, labels_of-wire_of, labels_of_is}
use Rattle.base.specs.reading.PointerLemmas.{length-wire_of}

-- no length of a label is an ASCII letter
lower_length : (n : ℕ) → n ≤ 63 → to_ascii_lowercase n ≡ n
lower_length n short = cond-true (nat_lt n 65) _ _ (lt-ltb n 65 (omega arith))

-- the bytes of labels in lower case
pub map_lower-wire_of : (labels : List (List ℕ)) → AreLabels labels
    → map to_ascii_lowercase (wire_of labels) ≡ wire_of (folded_labels labels)
unfolding wire_of
map_lower-wire_of [] are = refl
map_lower-wire_of (x ∷ xs) are =
    let len : to_ascii_lowercase (length x) ≡ length (map to_ascii_lowercase x) =
    lower_length (length x) are.0.short ∙ sym (length-map x to_ascii_lowercase) in
    ap (λ (n : ℕ). n ∷ map to_ascii_lowercase (x ++ wire_of xs)) len
    ∙ ap (λ (bytes : List ℕ). length (map to_ascii_lowercase x) ∷ bytes)
    (map-append to_ascii_lowercase x (wire_of xs)
    ∙ ap (λ (bytes : List ℕ). map to_ascii_lowercase x ++ bytes) (map_lower-wire_of xs are.1))

pub map_lower-wire : (bytes : List ℕ) → wire_of (labels_of bytes) ≡ bytes → AreLabels (labels_of bytes)
    → map to_ascii_lowercase bytes ≡ wire_of (folded_labels (labels_of bytes))
map_lower-wire bytes whole are = ap (map to_ascii_lowercase) (sym whole) ∙ map_lower-wire_of (labels_of bytes) are

wire_of_same : (xs ys : List (List ℕ)) → wire_of xs ≡ wire_of ys → xs ≡ ys
wire_of_same xs ys e = sym (labels_of-wire_of xs) ∙ ap labels_of e ∙ labels_of-wire_of ys

-- a test of the bytes in lower case is one of the labels
pub same_in_any_case : (b : Bool) (left right : List ℕ) → wire_of (labels_of left) ≡ left → AreLabels (labels_of left)
    → wire_of (labels_of right) ≡ right → AreLabels (labels_of right)
    → (IsTrue b ↔ (map to_ascii_lowercase left ≡ map to_ascii_lowercase right))
    → b ≡ same_labels (folded_labels (labels_of left)) (folded_labels (labels_of right))
same_in_any_case b left right whole are whole' are' test =
    let xs = folded_labels (labels_of left) in
    let ys = folded_labels (labels_of right) in
    let l = map_lower-wire left whole are in
    let r = map_lower-wire right whole' are' in
    one_answer b (same_labels xs ys)
    (λ (e : b ≡ true). wire_of_same xs ys (sym l ∙ test.0 e ∙ r), λ (e : xs ≡ ys). test.1 (l ∙ ap wire_of e ∙ sym r))
    (labels_decide xs ys)

-- where one list has ended, the longer is the greater
ended : {A : Type 0} (R : A → A → Ordering) (xs ys : List A) → length xs ≡ 0 ⊎ length ys ≡ 0
    → slice_cmp R xs ys ≡ nat_cmp (length xs) (length ys)
ended R [] [] one = refl
ended R [] (y ∷ ys) one = grind (arith, nat_tests)
ended R (x ∷ xs) [] one = grind (arith, nat_tests)
ended R (x ∷ xs) (y ∷ ys) (inl none) = absurd (omega arith)
ended R (x ∷ xs) (y ∷ ys) (inr none) = absurd (omega arith)

then-assoc : (a b c : Ordering) → ordering_then a (ordering_then b c) ≡ ordering_then (ordering_then a b) c
then-assoc Less b c = refl
then-assoc Equal b c = refl
then-assoc Greater b c = refl

then-Equal : (a : Ordering) → ordering_then a Equal ≡ a
then-Equal Less = refl
then-Equal Equal = refl
then-Equal Greater = refl

-- lists of one length, before others
slice_cmp-append : {A : Type 0} (R : A → A → Ordering) (xs ys us vs : List A) → length xs ≡ length ys
    → slice_cmp R (xs ++ us) (ys ++ vs) ≡ ordering_then (slice_cmp R xs ys) (slice_cmp R us vs)
slice_cmp-append R [] [] us vs same = refl
slice_cmp-append R [] (y ∷ ys) us vs same = absurd (omega arith)
slice_cmp-append R (x ∷ xs) [] us vs same = absurd (omega arith)
slice_cmp-append R (x ∷ xs) (y ∷ ys) us vs same =
    ap (ordering_then (R x y)) (slice_cmp-append R xs ys us vs (omega arith))
    ∙ then-assoc (R x y) (slice_cmp R xs ys) (slice_cmp R us vs)

-- of labels that have as many after them, the last ones decide first
labels_cmp-append : (us vs xs ys : List (List ℕ)) → length xs ≡ length ys
    → labels_cmp (us ++ xs) (vs ++ ys) ≡ ordering_then (labels_cmp xs ys) (labels_cmp us vs)
labels_cmp-append us vs xs ys same =
    let label_cmp = slice_cmp nat_cmp in
    ap (λ (rs : List (List ℕ)). slice_cmp label_cmp rs (reverse (vs ++ ys))) (reverse-append us xs)
    ∙ ap (λ (rs : List (List ℕ)). slice_cmp label_cmp (reverse xs ++ reverse us) rs) (reverse-append vs ys)
    ∙ slice_cmp-append label_cmp (reverse xs) (reverse ys) (reverse us) (reverse vs)
    (length-reverse xs ∙ same ∙ sym (length-reverse ys))

one_label : (x y : List ℕ) → labels_cmp (x ∷ []) (y ∷ []) ≡ slice_cmp nat_cmp x y
one_label x y = then-Equal (slice_cmp nat_cmp x y)

-- one label before as many others
labels_cmp-cons : (x y : List ℕ) (xs ys : List (List ℕ)) (order : Ordering) → length xs ≡ length ys
    → ordering_then (labels_cmp (folded_labels (x ∷ xs)) (folded_labels (y ∷ ys))) order
    ≡ ordering_then (labels_cmp (folded_labels xs) (folded_labels ys))
    (ordering_then (slice_cmp nat_cmp (map to_ascii_lowercase x) (map to_ascii_lowercase y)) order)
labels_cmp-cons x y xs ys order same =
    let low : List ℕ → List ℕ = map to_ascii_lowercase in
    let len : length (folded_labels xs) ≡ length (folded_labels ys) =
    length-map xs low ∙ same ∙ sym (length-map ys low) in
    ap (λ (o : Ordering). ordering_then o order)
    (labels_cmp-append (low x ∷ []) (low y ∷ []) (folded_labels xs) (folded_labels ys) len
    ∙ ap (ordering_then (labels_cmp (folded_labels xs) (folded_labels ys))) (one_label (low x) (low y)))
    ∙ sym (then-assoc (labels_cmp (folded_labels xs) (folded_labels ys)) (slice_cmp nat_cmp (low x) (low y)) order)

-- labels of which one list has ended
labels_cmp_ended : (us vs : List (List ℕ)) → length us ≡ 0 ⊎ length vs ≡ 0
    → labels_cmp us vs ≡ nat_cmp (length us) (length vs)
labels_cmp_ended us vs one =
    ended (slice_cmp nat_cmp) (reverse us) (reverse vs) (either one)
    ∙ ap (λ (n : ℕ). nat_cmp n (length (reverse vs))) (length-reverse us) ∙ ap (nat_cmp (length us)) (length-reverse vs)
  where
    either : length us ≡ 0 ⊎ length vs ≡ 0 → length (reverse us) ≡ 0 ⊎ length (reverse vs) ≡ 0
    either (inl none) = inl (length-reverse us ∙ none)
    either (inr none) = inr (length-reverse vs ∙ none)

one_ended : (m n : ℕ) → m - n ≡ 0 ⊎ n - m ≡ 0
one_ended zero n = inl (omega arith)
one_ended (suc m) zero = inr (omega arith)
one_ended (suc m) (suc n) = elim (one_ended m n) [ inl none ↦ inl (omega arith) | inr none ↦ inr (omega arith) ]

counts : (m n : ℕ) → nat_cmp (m - n) (n - m) ≡ nat_cmp m n
counts m n = grind (arith, nat_tests)

-- the last labels of the longer name first, and then the counts
pub labels_cmp-counts : (xs ys : List (List ℕ))
    → labels_cmp (folded_labels xs) (folded_labels ys)
    ≡ ordering_then (labels_cmp (folded_labels (drop (length xs - length ys) xs))
    (folded_labels (drop (length ys - length xs) ys))) (nat_cmp (length xs) (length ys))
labels_cmp-counts xs ys =
    let m = length xs in
    let n = length ys in
    let us = folded_labels (take (m - n) xs) in
    let vs = folded_labels (take (n - m) ys) in
    let xs' = folded_labels (drop (m - n) xs) in
    let ys' = folded_labels (drop (n - m) ys) in
    let left : folded_labels xs ≡ us ++ xs' = split (m - n) xs in
    let right : folded_labels ys ≡ vs ++ ys' = split (n - m) ys in
    let len-us : length us ≡ m - n = length-map (take (m - n) xs) (map to_ascii_lowercase)
    ∙ length-take-le (m - n) xs (omega arith) in
    let len-vs : length vs ≡ n - m = length-map (take (n - m) ys) (map to_ascii_lowercase)
    ∙ length-take-le (n - m) ys (omega arith) in
    let len-xs : length xs' ≡ m - (m - n) = length-map (drop (m - n) xs) (map to_ascii_lowercase)
    ∙ length-drop (m - n) xs in
    let len-ys : length ys' ≡ n - (n - m) = length-map (drop (n - m) ys) (map to_ascii_lowercase)
    ∙ length-drop (n - m) ys in
    let one : length us ≡ 0 ⊎ length vs ≡ 0 =
    elim (one_ended m n) [ inl none ↦ inl (len-us ∙ none) | inr none ↦ inr (len-vs ∙ none) ] in
    let after : labels_cmp us vs ≡ nat_cmp m n =
    labels_cmp_ended us vs one ∙ ap (λ (k : ℕ). nat_cmp k (length vs)) len-us ∙ ap (nat_cmp (m - n)) len-vs
    ∙ counts m n in
    ap (λ (zs : List (List ℕ)). labels_cmp zs (folded_labels ys)) left ∙ ap (labels_cmp (us ++ xs')) right
    ∙ labels_cmp-append us vs xs' ys' (omega (arith, len-xs, len-ys)) ∙ ap (ordering_then (labels_cmp xs' ys')) after
  where
    split : (k : ℕ) (zs : List (List ℕ)) → folded_labels zs ≡ folded_labels (take k zs) ++ folded_labels (drop k zs)
    split k zs = ap folded_labels (sym (take-append-drop k zs))
        ∙ map-append (map to_ascii_lowercase) (take k zs) (drop k zs)

pub AreLabels-drop : (n : ℕ) (labels : List (List ℕ)) → AreLabels labels → AreLabels (drop n labels)
AreLabels-drop zero labels are = are
AreLabels-drop (suc n) [] are = are
AreLabels-drop (suc n) (x ∷ xs) are = AreLabels-drop n xs are.1

-- labels are the last ones of others exactly where they are those after the surplus
pub are_last : (b : Bool) (xs ys : List (List ℕ)) (n : ℕ) → n + length xs ≡ length ys
    → b ≡ same_labels (folded_labels (drop n ys)) (folded_labels xs)
    → IsTrue b ↔ ((front : List (List ℕ)) × (folded_labels ys ≡ front ++ folded_labels xs))
are_last b xs ys n count test = (forward, back) where
  low : List ℕ → List ℕ
  low = map to_ascii_lowercase

  decide : Decides (same_labels (folded_labels (drop n ys)) (folded_labels xs))
      (folded_labels (drop n ys) ≡ folded_labels xs)
  decide = labels_decide (folded_labels (drop n ys)) (folded_labels xs)

  forward : b ≡ true → (front : List (List ℕ)) × (folded_labels ys ≡ front ++ folded_labels xs)
  forward e = (
    folded_labels (take n ys),
    ap folded_labels (sym (take-append-drop n ys)) ∙ map-append low (take n ys) (drop n ys)
        ∙ ap (λ (zs : List (List ℕ)). folded_labels (take n ys) ++ zs) (decide.0 (sym test ∙ e)),
  )

  back : (front : List (List ℕ)) × (folded_labels ys ≡ front ++ folded_labels xs) → b ≡ true
  back h =
      let len : length h.0 ≡ n = omega (
        arith,
        sym (length-map ys low) ∙ ap length h.1,
        length-append h.0 (folded_labels xs),
        length-map xs low,
      ) in
      test ∙ decide.1 (sym (drop-map low n ys) ∙ ap (drop n) h.1 ∙ drop_at h.0 (folded_labels xs) n len)

-- bytes of which one list has ended
pub ended_folded : (xs ys : List ℕ) → length xs ≡ 0 ⊎ length ys ≡ 0
    → slice_cmp nat_cmp (map to_ascii_lowercase xs) (map to_ascii_lowercase ys) ≡ nat_cmp (length xs) (length ys)
ended_folded xs ys one =
    ended nat_cmp (map to_ascii_lowercase xs) (map to_ascii_lowercase ys)
    (elim one [
      | inl none ↦ inl (length-map xs to_ascii_lowercase ∙ none)
      | inr none ↦ inr
          (length-map ys to_ascii_lowercase ∙ none)
    ])
    ∙ ap (λ (n : ℕ). nat_cmp n (length (map to_ascii_lowercase ys))) (length-map xs to_ascii_lowercase)
    ∙ ap (nat_cmp (length xs)) (length-map ys to_ascii_lowercase)

-- as many bytes less on either side
cmp_less : (m n i : ℕ) → i ≤ m → i ≤ n → nat_cmp (m - i) (n - i) ≡ nat_cmp m n
cmp_less m n i in_m in_n = grind (arith, nat_tests)

-- at the shorter length one of two lists has ended
shorter_ended : (m n i : ℕ) → i ≡ min m n → m - i ≡ 0 ⊎ n - i ≡ 0
shorter_ended m n i is = elim (one_ended m n) [
  | inl below ↦ inl (omega (
    arith,
    below,
    is ∙
        min-eq_left (omega (arith, below)),
  ))
  | inr above ↦ inr (omega (
    arith,
    is ∙ min-eq_right (omega
        (arith, above)),
  ))
]

-- the next bytes that both have decide first, unless they are equal
pub cmp_next : (xs ys : List ℕ) (m i : ℕ) (order : Ordering) → m ≡ min (length xs) (length ys) → i < m
    → order ≡ nat_cmp (to_ascii_lowercase (get_or (take m xs) i 0)) (to_ascii_lowercase (get_or (take m ys) i 0))
    → slice_cmp nat_cmp (map to_ascii_lowercase (drop i xs)) (map to_ascii_lowercase (drop i ys))
    ≡ ordering_then order (slice_cmp nat_cmp (map to_ascii_lowercase (drop (i + 1) xs))
    (map to_ascii_lowercase (drop (i + 1) ys)))
cmp_next xs ys m i order shared inside is =
    let x : i < length xs = omega (arith, inside, shared, min-le_left (length xs) (length ys)) in
    let y : i < length ys = omega (arith, inside, shared, min-le_right (length xs) (length ys)) in
    rw (is, get_or-take m xs i 0 inside, get_or-take m ys i 0 inside, drop_more xs i 0 x, drop_more ys i 0 y) refl

pub then-ne : (a b : Ordering) → is_ne a ≡ true → ordering_then a b ≡ a
then-ne Less b differ = refl
then-ne Equal b differ = absurd (false≢true differ)
then-ne Greater b differ = refl

pub then-eq : (a b : Ordering) → is_ne a ≡ false → ordering_then a b ≡ b
then-eq Less b same = absurd (false≢true (sym same))
then-eq Equal b same = refl
then-eq Greater b same = absurd (false≢true (sym same))

-- where the shorter list has ended, the longer is the greater
pub ended_after : (xs ys : List ℕ) (i : ℕ) → i ≡ min (length xs) (length ys)
    → slice_cmp nat_cmp (map to_ascii_lowercase (drop i xs)) (map to_ascii_lowercase (drop i ys)) ≡ nat_cmp (length xs)
    (length ys)
ended_after xs ys i is =
    let m = length xs in
    let n = length ys in
    let one : length (drop i xs) ≡ 0 ⊎ length (drop i ys) ≡ 0 =
    elim (shorter_ended m n i is) [
      | inl none ↦ inl (length-drop i xs ∙ none)
      | inr none ↦ inr
          (length-drop i ys ∙ none)
    ] in
    ended_folded (drop i xs) (drop i ys) one
    ∙ ap (λ (k : ℕ). nat_cmp k (length (drop i ys))) (length-drop i xs) ∙ ap (nat_cmp (m - i)) (length-drop i ys)
    ∙ cmp_less m n i (subst (λ (k : ℕ). k ≤ m) (sym is) (min-le_left m n))
    (subst (λ (k : ℕ). k ≤ n) (sym is) (min-le_right m n))

-- one more label from the left
pub labels_cmp-step : {us vs : List (List ℕ)} {x y : List ℕ} {xs ys : List (List ℕ)} {label next : Ordering}
    (order : Ordering) → us ≡ x ∷ xs → vs ≡ y ∷ ys → length xs ≡ length ys
    → label ≡ slice_cmp nat_cmp (map to_ascii_lowercase x) (map to_ascii_lowercase y) → next ≡ ordering_then label order
    → ordering_then (labels_cmp (folded_labels xs) (folded_labels ys)) next ≡ ordering_then
    (labels_cmp (folded_labels us) (folded_labels vs)) order
labels_cmp-step {us} {vs} {x} {y} {xs} {ys} {label} {next} order us_is vs_is same label_is next_is =
    ap (ordering_then (labels_cmp (folded_labels xs) (folded_labels ys)))
    (next_is ∙ ap (λ (o : Ordering). ordering_then o order) label_is)
    ∙ sym (labels_cmp-cons x y xs ys order same)
    ∙ ap (λ (zs : List (List ℕ)). ordering_then (labels_cmp (folded_labels zs) (folded_labels (y ∷ ys))) order)
    (sym us_is)
    ∙ ap (λ (zs : List (List ℕ)). ordering_then (labels_cmp (folded_labels us) (folded_labels zs)) order) (sym vs_is)

pub longer : {us vs : List (List ℕ)} {x y : List ℕ} {xs ys : List (List ℕ)} → us ≡ x ∷ xs → vs ≡ y ∷ ys
    → length xs ≡ length ys → length us ≡ length vs
longer us_is vs_is same = omega (arith, ap length us_is, ap length vs_is, same)

pub step_count : {us vs : List (List ℕ)} {x y : List ℕ} {xs ys : List (List ℕ)} → us ≡ x ∷ xs → vs ≡ y ∷ ys
    → length us ≡ length vs → length xs ≡ length ys
step_count us_is vs_is same = omega (arith, ap length us_is, ap length vs_is, same)

pub apart : {us vs : List (List ℕ)} {x : List ℕ} {xs : List (List ℕ)} → us ≡ x ∷ xs → vs ≡ [] → length us ≡ length vs
    → ⊥
apart us_is vs_is same = omega (arith, ap length us_is, ap length vs_is, same)

pub then_Equal : (o : Ordering) → ordering_then o Equal ≡ o
then_Equal Less = refl
then_Equal Equal = refl
then_Equal Greater = refl

-- labels that are the same are in one place
labels_cmp-itself : (xs : List (List ℕ)) → labels_cmp xs xs ≡ Equal
labels_cmp-itself xs = (Equal-is (labels_cmp xs xs)).0 (sym (labels_tie xs xs) ∙ (labels_decide xs xs).1 refl)

-- after the same labels the order of those before decides
pub labels_cmp-same : (xs ys : List (List ℕ)) (order next : Ordering) → xs ≡ ys
    → ordering_then (labels_cmp (folded_labels xs) (folded_labels ys)) order ≡ next → order ≡ next
labels_cmp-same xs ys order next same is =
    sym (ap (λ (o : Ordering). ordering_then o order)
    (ap (λ (zs : List (List ℕ)). labels_cmp (folded_labels xs) (folded_labels zs)) (sym same)
    ∙ labels_cmp-itself (folded_labels xs))) ∙ is

-- past the last label there is nothing
pub drop_to_none : (labels : List (List ℕ)) (m n : ℕ) → m ≤ n → drop m labels ≡ [] → drop n labels ≡ []
drop_to_none labels m n le none =
    drop_all n labels (omega (arith, length-drop m labels, ap length none))

pub drop_one_more : (labels : List (List ℕ)) (n : ℕ) (x : List ℕ) (rest tail : List (List ℕ)) → rest ≡ drop n labels
    → rest ≡ x ∷ tail → tail ≡ drop (n + 1) labels
drop_one_more labels n x rest tail is first = sym (ap (drop 1) (sym is ∙ first)) ∙ drop-drop 1 n labels

pub are_last_at : (b : Bool) (xs ys us vs : List (List ℕ)) (n : ℕ) → n + length xs ≡ length ys → us ≡ drop n ys
    → vs ≡ xs → b ≡ same_labels (folded_labels us) (folded_labels vs)
    → IsTrue b ↔ ((front : List (List ℕ)) × (folded_labels ys ≡ front ++ folded_labels xs))
are_last_at b xs ys us vs n count us_is vs_is test =
    are_last b xs ys n count
    (test ∙ ap (λ (zs : List (List ℕ)). same_labels (folded_labels zs) (folded_labels vs)) us_is
    ∙ ap (λ (zs : List (List ℕ)). same_labels (folded_labels (drop n ys)) (folded_labels zs)) vs_is)

-- The labels of two names that are compared: of either as many of the last as both have.
pub record LastLabels (a b us vs : List (List ℕ)) (m n : ℕ) : Type 0 where
  pub count : m ≡ length a
  pub other_count : n ≡ length b
  pub last : us ≡ drop (m - n) a
  pub other_last : vs ≡ drop (n - m) b

-- the order of names, from that of their last labels
pub name_cmp_is : (a b : NameValue) {us vs : List (List ℕ)} {m n : ℕ} {flags labels count all : Ordering}
    → LastLabels a.labels b.labels us vs m n
    → flags ≡ bool_cmp a.absolute b.absolute → labels ≡ labels_cmp (folded_labels us) (folded_labels vs)
    → count ≡ nat_cmp m n
    → all ≡ ordering_then (ordering_then flags labels) count → all ≡ name_cmp a b
name_cmp_is a b {flags = flags} {labels = labels} {count = count} lasts flags_is labels_is count_is all_is =
    all_is ∙ sym (then-assoc flags labels count)
    ∙ ap (λ (o : Ordering). ordering_then o (ordering_then labels count)) flags_is
    ∙ ap (ordering_then (bool_cmp a.absolute b.absolute))
    (cc (labels_cmp-counts a.labels b.labels, lasts.count, lasts.other_count, lasts.last, lasts.other_last))

AreLabels-folded : (labels : List (List ℕ)) → AreLabels labels → AreLabels (folded_labels labels)
AreLabels-folded [] are = are
AreLabels-folded (x ∷ xs) are =
    let len = length-map x to_ascii_lowercase in
    (record { some = omega (arith, are.0.some); short = omega (arith, are.0.short) }, AreLabels-folded xs are.1)

-- the bytes of a name in lower case
pub IsWire-lower : (bytes : List ℕ) → IsWire bytes → IsWire (map to_ascii_lowercase bytes)
IsWire-lower bytes wire =
    let lower = map_lower-wire bytes wire.whole wire.labels in
    let folds = folded_labels (labels_of bytes) in
    rw lower (IsWire-wire_of folds (AreLabels-folded (labels_of bytes) wire.labels)
    (omega (arith, wire.short, length-map bytes to_ascii_lowercase, ap length lower, length-wire_of folds)))

pub labels_of-lower : (bytes : List ℕ) → IsWire bytes
    → labels_of (map to_ascii_lowercase bytes) ≡ folded_labels (labels_of bytes)
labels_of-lower bytes wire = labels_of_is _ (folded_labels (labels_of bytes))
    (map_lower-wire bytes wire.whole wire.labels)

-- what is in lower case stays
lower_twice : (c : ℕ) → to_ascii_lowercase (to_ascii_lowercase c) ≡ to_ascii_lowercase c
lower_twice c = grind (arith, nat_tests)

label_twice : (x : List ℕ) → map to_ascii_lowercase (map to_ascii_lowercase x) ≡ map to_ascii_lowercase x
label_twice [] = refl
label_twice (c ∷ cs) = ap (λ (d : ℕ). d ∷ map to_ascii_lowercase (map to_ascii_lowercase cs)) (lower_twice c)
    ∙ ap (λ (ds : List ℕ). to_ascii_lowercase c ∷ ds) (label_twice cs)

pub folded_twice : (labels : List (List ℕ)) → folded_labels (folded_labels labels) ≡ folded_labels labels
folded_twice [] = refl
folded_twice (x ∷ xs) = ap (λ (y : List ℕ). y ∷ folded_labels (folded_labels xs)) (label_twice x)
    ∙ ap (λ (ys : List (List ℕ)). map to_ascii_lowercase x ∷ ys) (folded_twice xs)

pub folded_lower : (n lower : NameValue) → lower ≡ lowered n → folded lower ≡ lower.labels
folded_lower n lower is = ap folded is ∙ folded_twice n.labels ∙ ap (λ (m : NameValue). m.labels) (sym is)

pub lowered_is : (bytes lower : List ℕ) (flag : Bool) (n : NameValue)
    → labels_of lower ≡ folded_labels (labels_of bytes)
    → ◌≡◌ {A = NameValue} (record { labels = labels_of bytes; absolute = flag }) n
    → ◌≡◌ {A = NameValue} (record { labels = labels_of lower; absolute = flag }) (lowered n)
lowered_is bytes lower flag n labels is =
    let named : List (List ℕ) → NameValue = λ l. record { labels = l; absolute = flag } in
    ap named labels ∙ ap lowered is

-- an answer to whether labels are the last ones of a name is the test of it
pub zone_test : (a b : NameValue) (r : Bool) → IsTrue r ↔ ((front : List (List ℕ)) × (folded b ≡ front ++ folded a))
    → r ≡ is_zone_of a b
zone_test a b r is =
    let ends = ends_is bytes_decides (folded b) (folded a) (is_zone_of a b) refl in
    one_answer r (is_zone_of a b) is (
      λ h. (take (length (folded b) - length (folded a)) (folded b), ends.0 h),
      λ f. ends.1 f.0 f.1,
    )
