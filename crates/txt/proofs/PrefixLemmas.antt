-- A name of a lesser prefix comes first.
use Rattle.std.proofs.Common.{rules, ◌≡◌, ◌≢◌, ◌<◌, ◌+◌, ◌*◌, ◌/◌, ◌⊎◌, inl, inr, ℕ, List, [], ◌∷◌, refl, ap, sym, ◌∙◌}
use Rattle.std.proofs.Common.{subst, arith, reverse}
use Rattle.std.specs.List.{AllByRecursion}
use Rattle.std.specs.Cmp.Lexicographic.{slice_cmp}
use Rattle.std.specs.Cmp.{nat_cmp_is}
use Rattle.std.proofs.lemmas.Bool.{cases_order}
use Rattle.std.specs.Ordering.{nat_cmp, ordering_reverse, ordering_then}
use Rattle.std.specs.declared.cmp.Ordering.{Ordering}
use Rattle.base.proofs.names.KeyLemmas.{key_cmp-total}
use Rattle.base.specs.RecordType.{type_cmp}
use Rattle.base.specs.RrKey.{key_cmp}
use Rattle.base.specs.declared.rr_key.RrKey.{RrKey}
use Rattle.std.specs.declared.cmp.Ordering.TheVariants.{Less, Equal, Greater}
use Rattle.base.specs.names.Labels.{NameValue}
use Rattle.base.specs.names.NameOrder.{lower_cmp}
use Rattle.txt.specs.Prefix.{FIRST, HaveDigits, IsPrefix, LIMIT, digit, led, prefix}

-- ---- digits
pub digit_few : (b : ℕ) → digit b < 64
unfolding digit
digit_few b = search rules

digit_less : (a b : ℕ) → 0 < digit a → digit a < digit b → a < b
unfolding digit
digit_less a b some less = search rules

digit_same : (a b : ℕ) → 0 < digit a → 0 < digit b → digit a ≡ digit b → a ≡ b
unfolding digit
digit_same a b some other same = search rules

-- what is led by a greater digit is greater
by_digit : (d e r s : ℕ) → r < LIMIT → s < LIMIT → d * FIRST + r / 64 < e * FIRST + s / 64
    → (d < e) ⊎ ((d ≡ e) × (r < s))
by_digit d e r s few other less = search rules

pub one_more : (d r : ℕ) → d < 64 → r < LIMIT → d * FIRST + r / 64 < LIMIT
one_more d r few other = omega arith

pub led_few : (label : List ℕ) (others : ℕ) → others < LIMIT → led label others < LIMIT
unfolding led
led_few [] others few = omega (arith, few)
led_few (b ∷ bs) others few = one_more (digit b) (led bs others) (digit_few b) (led_few bs others few)

pub prefix_few : (labels : List (List ℕ)) → prefix labels < LIMIT
prefix_few [] = omega arith
prefix_few (label ∷ labels) = led_few label (prefix labels) (prefix_few labels)

-- ---- labels
label_less : (xs ys : List ℕ) (r s : ℕ) → HaveDigits xs → HaveDigits ys → r < LIMIT → s < LIMIT
    → led xs r < led ys s → (slice_cmp nat_cmp xs ys ≡ Less) ⊎ ((slice_cmp nat_cmp xs ys ≡ Equal) × (r < s))
unfolding led
label_less [] [] r s all others few other less = inr (refl, omega (arith, less))
label_less [] (y ∷ ys) r s all others few other less = inl refl
label_less (x ∷ xs) [] r s all others few other less = absurd (omega (arith, all.0, less, other))
label_less (x ∷ xs) (y ∷ ys) r s all others few other less =
    go (by_digit (digit x) (digit y) (led xs r) (led ys s) (led_few xs r few) (led_few ys s other) less)
    (label_less xs ys r s all.1 others.1 few other) where
      go : (digit x < digit y) ⊎ ((digit x ≡ digit y) × (led xs r < led ys s))
          → (led xs r < led ys s → (slice_cmp nat_cmp xs ys ≡ Less) ⊎ ((slice_cmp nat_cmp xs ys ≡ Equal) × (r < s)))
          → (slice_cmp nat_cmp (x ∷ xs) (y ∷ ys) ≡ Less) ⊎ ((slice_cmp nat_cmp (x ∷ xs) (y ∷ ys) ≡ Equal) × (r < s))
      go (inl first) again = inl (rw (sym (nat_cmp_is x y Less (digit_less x y all.0 first))) refl)
      go (inr (same, rest)) again =
          rw (sym (nat_cmp_is x y Equal (digit_same x y all.0 others.0 same))) (again rest)

labels_less : (xs ys : List (List ℕ)) → AllByRecursion HaveDigits xs → AllByRecursion HaveDigits ys
    → prefix xs < prefix ys → slice_cmp (slice_cmp nat_cmp) xs ys ≡ Less
labels_less [] [] all others less = absurd (omega (arith, less))
labels_less [] (y ∷ ys) all others less = refl
labels_less (x ∷ xs) [] all others less = absurd (omega (arith, less))
labels_less (x ∷ xs) (y ∷ ys) all others less =
    go (label_less x y (prefix xs) (prefix ys) all.0 others.0 (prefix_few xs) (prefix_few ys) less)
    (labels_less xs ys all.1 others.1) where
      go : (slice_cmp nat_cmp x y ≡ Less) ⊎ ((slice_cmp nat_cmp x y ≡ Equal) × (prefix xs < prefix ys))
          → (prefix xs < prefix ys → slice_cmp (slice_cmp nat_cmp) xs ys ≡ Less)
          → slice_cmp (slice_cmp nat_cmp) (x ∷ xs) (y ∷ ys) ≡ Less
      go (inl first) again = rw first refl
      go (inr (same, rest)) again = rw same (again rest)

-- ---- names
pub name_less : (a b : NameValue) (p q : ℕ) → IsPrefix p a → IsPrefix q b → p ≢ 0 → q ≢ 0 → p < q
    → lower_cmp a b ≡ Less
name_less a b p q is other some more less =
    let left = is some in
    let right = other more in
    let first = labels_less (reverse a.labels) (reverse b.labels) left.1.digits right.1.digits
    (subst (λ n. n < prefix (reverse b.labels)) left.1.value (subst (λ n. p < n) right.1.value less)) in
    rw (left.0, right.0, first) refl

-- ---- keys
-- the order of two prefixes that are known and differ is that of their keys
pub keys_apart : (a b : RrKey) (p q : ℕ) → IsPrefix p a.name → IsPrefix q b.name → p ≢ q → p ≢ 0 → q ≢ 0
    → nat_cmp p q ≡ key_cmp a b
keys_apart a b p q is other apart some more = go (cases_order p q) where
  go : (p ≡ q) ⊎ ((p < q) ⊎ (q < p)) → nat_cmp p q ≡ key_cmp a b
  go (inl same) = absurd (apart same)
  go (inr (inl less)) =
      sym (nat_cmp_is p q Less less)
      ∙ sym (ap (λ (o : Ordering). ordering_then o (type_cmp a.record_type b.record_type))
      (name_less a.name b.name p q is other some more less))
  go (inr (inr less)) =
      let turned : key_cmp b a ≡ Less =
      ap (λ (o : Ordering). ordering_then o (type_cmp b.record_type a.record_type))
      (name_less b.name a.name q p other is more some less) in
      sym (nat_cmp_is p q Greater less) ∙ sym (key_cmp-total.antisymm a b ∙ ap ordering_reverse turned)
