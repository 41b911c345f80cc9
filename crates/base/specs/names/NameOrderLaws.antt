-- What the orders and equalities of names are: an equivalence, a total order, and which of them agree.
use Rattle.std.specs.Prelude.{◌≡◌, ℕ, Bool, true, false, List, [], ◌∷◌, reverse, refl, IsTrue, ◌↔◌}
use Rattle.std.proofs.Common.{ap, sym, ◌∙◌}
use Rattle.std.proofs.lemmas.List.{reverse-reverse}
use Rattle.std.specs.Bool.{beq, Decides, one_answer}
use Rattle.std.proofs.lemmas.Cmp.{and_equiv, lists_equiv, lists_total, nat_cmp_total, nat_eq_equiv, on_equiv, on_total}
use Rattle.std.proofs.lemmas.Cmp.{then_total}
use Rattle.std.specs.Cmp.{IsEquivalence, IsPartialOrder, IsTotalOrder, Equal-is, bool_cmp_total, bool_eq_equiv}
use Rattle.std.specs.Cmp.{booleans_Decides, both_tied, first_so, second_so, partial_order_from_agreeing_total}
use Rattle.std.specs.Cmp.{unsigned_ties}
use Rattle.std.specs.Cmp.Lexicographic.{bytes_decides, lists_ties, pointwise_decides, slice_cmp}
use Rattle.std.specs.Hash as fed
use Rattle.std.specs.Ordering.{as_partial_cmp, bool_cmp, is_eq, nat_cmp}
use Rattle.std.specs.declared.cmp.Ordering.TheVariants.{Equal}
use Rattle.base.specs.names.Labels.{NameValue, wire_of}
use Rattle.base.specs.names.NameOrder.{cmp_by, exact, fed_by, labels_cmp, lower_cmp, same_by, same_labels, same_lower}

-- labels are the same by the test exactly where they are equal
pub labels_decide : (xs ys : List (List ℕ)) → Decides (same_labels xs ys) (xs ≡ ys)
labels_decide = pointwise_decides bytes_decides

-- lists are the same exactly where their reverses are
turned_Decides : (b : Bool) (xs ys : List (List ℕ)) → Decides b (reverse xs ≡ reverse ys)
    → Decides b (xs ≡ ys)
turned_Decides b xs ys d = (
  λ e. sym (reverse-reverse xs) ∙ ap reverse (d.0 e)
      ∙ reverse-reverse ys,
  λ e. d.1 (ap reverse e),
)

-- the order of labels tells apart exactly those that are not the same
pub labels_tie : (xs ys : List (List ℕ)) → same_labels xs ys ≡ is_eq (labels_cmp xs ys)
labels_tie xs ys =
    one_answer (same_labels xs ys) (is_eq (labels_cmp xs ys)) (labels_decide xs ys)
    (turned_Decides (is_eq (labels_cmp xs ys)) xs ys
    (rw (← lists_ties (slice_cmp nat_cmp) (lists_ties nat_cmp unsigned_ties) (reverse xs)
    (reverse ys)) (labels_decide (reverse xs) (reverse ys))))

flags_tie : (a b : Bool) → beq a b ≡ is_eq (bool_cmp a b)
flags_tie true true = refl
flags_tie true false = refl
flags_tie false true = refl
flags_tie false false = refl

module _ (shown : NameValue → List (List ℕ)) where
  pub same_by-equiv : IsEquivalence (same_by shown)
  same_by-equiv = and_equiv (on_equiv (λ n. n.absolute) bool_eq_equiv)
      (on_equiv shown (lists_equiv (lists_equiv nat_eq_equiv)))

  pub cmp_by-total : IsTotalOrder (cmp_by shown)
  cmp_by-total = then_total (on_total (λ n. n.absolute) bool_cmp_total)
      (on_total shown (on_total reverse (lists_total (lists_total nat_cmp_total))))

  -- names are the same exactly where the order does not tell them apart
  pub same_by-tie : (a b : NameValue) → same_by shown a b ≡ is_eq (cmp_by shown a b)
  same_by-tie a b = both_tied _ _ (bool_cmp a.absolute b.absolute) (labels_cmp (shown a) (shown b))
      (flags_tie a.absolute b.absolute) (labels_tie (shown a) (shown b))

  pub cmp_by-partial : IsPartialOrder (same_by shown) (as_partial_cmp (cmp_by shown))
  cmp_by-partial =
      partial_order_from_agreeing_total (cmp_by shown) cmp_by-total (λ _ _. refl) same_by-tie

  -- names that are the same are fed alike
  pub fed_by-same : (a b : NameValue) → same_by shown a b ≡ true → fed_by shown a ≡ fed_by shown b
  fed_by-same a b h =
      (fed.and-Alike
      (fed.on_Alike (λ (n : NameValue). n.absolute) (fed.same_Alike fed.bool booleans_Decides))
      (fed.on_Alike shown
      (fed.same_Alike (λ (labels : List (List ℕ)). wire_of labels ∷ []) labels_decide))).fed a b h

  -- names that are the same have the same flag, and the same labels as they are shown
  pub same_by-is : (a b : NameValue)
      → IsTrue (same_by shown a b) ↔ ((a.absolute ≡ b.absolute) × (shown a ≡ shown b))
  same_by-is a b = (λ h. (same_flag h, same_shown h), both) where
    same_flag : IsTrue (same_by shown a b) → a.absolute ≡ b.absolute
    same_flag h = (booleans_Decides a.absolute b.absolute).0 (first_so _ _ h)

    same_shown : IsTrue (same_by shown a b) → shown a ≡ shown b
    same_shown h = (labels_decide (shown a) (shown b)).0 (second_so (beq a.absolute b.absolute) _ h)

    both : (a.absolute ≡ b.absolute) × (shown a ≡ shown b) → IsTrue (same_by shown a b)
    both h =
        rw ((booleans_Decides a.absolute b.absolute).1 h.0)
        ((labels_decide (shown a) (shown b)).1 h.1)

  -- and so have those that the order does not tell apart
  pub cmp_by-ties : (a b : NameValue)
      → (cmp_by shown a b ≡ Equal) ↔ ((a.absolute ≡ b.absolute) × (shown a ≡ shown b))
  cmp_by-ties a b =
      let tie = same_by-tie a b in (
        λ (h : cmp_by shown a b ≡ Equal). (same_by-is a b).0 (tie ∙ ap is_eq h),
        λ (h : (a.absolute ≡ b.absolute) × (shown a ≡ shown b)).
            (Equal-is (cmp_by shown a b)).0 (sym tie ∙ (same_by-is a b).1 h),
      )

-- values of the same parts are the same
name_parts : (a b : NameValue) → a.absolute ≡ b.absolute → a.labels ≡ b.labels → a ≡ b
name_parts a b flag labels =
    ap (λ (l : List (List ℕ)). record a { labels = l }) labels
    ∙ ap (λ (f : Bool). record b { absolute = f }) flag

-- the order of names in lower case tells apart all that are not the same
pub lower_cmp-exact : (a b : NameValue) → lower_cmp a b ≡ Equal → a ≡ b
lower_cmp-exact a b h =
    let parts = (cmp_by-ties exact a b).0 h in
    name_parts a b parts.0 parts.1

-- and so does their equality
pub same_lower-exact : (a b : NameValue) → IsTrue (same_lower a b) → a ≡ b
same_lower-exact a b h =
    let parts = (same_by-is exact a b).0 h in
    name_parts a b parts.0 parts.1
