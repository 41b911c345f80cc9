-- In the order of names, what lies at a name or below it stands side by side, from the name on.
use Rattle.base.proofs.names.FrontLemmas.{between, front_le}
use Rattle.base.specs.names.Labels.{NameValue}
use Rattle.base.specs.names.NameOrder.{folded, labels_cmp, lower_cmp, lowered}
use Rattle.base.specs.names.Parents.{is_at_or_below}
use Rattle.std.proofs.Common.{ap, refl, reverse, subst, sym, take, ◌++◌, ◌-◌, ◌∙◌}
use Rattle.std.proofs.lemmas.Bool.{false≢true}
use Rattle.std.proofs.lemmas.Cmp.{lists_total, nat_cmp_total}
use Rattle.std.proofs.lemmas.List.{reverse-append, reverse-reverse}
use Rattle.std.proofs.lemmas.Slice.Eq.{ends_is}
use Rattle.std.specs.Bool.{beq}
use Rattle.std.specs.Cmp.Lexicographic.{bytes_decides, lists_ties, pointwise, slice_cmp}
use Rattle.std.specs.Cmp.{booleans_Decides, first_so, second_so, unsigned_ties}
use Rattle.std.specs.List.{ends_with}
use Rattle.std.specs.Ordering.{bool_cmp, is_eq, is_le, nat_cmp, ordering_then}
use Rattle.std.specs.Prelude.{Bool, List, false, length, nat_eq, true, ℕ, ◌&&◌, ◌≡◌}
use Rattle.std.specs.declared.cmp.Ordering.TheVariants.{Equal, Greater, Less}
use Rattle.std.specs.declared.cmp.Ordering.{Ordering}

abbrev label_cmp : List ℕ → List ℕ → Ordering
label_cmp = slice_cmp nat_cmp

-- labels tie only where they are the same
label_exact : (x y : List ℕ) → label_cmp x y ≡ Equal → x ≡ y
label_exact x y h = (bytes_decides x y).0 (lists_ties nat_cmp unsigned_ties x y ∙ ap is_eq h)

-- what it is to lie at a name or below it
pub record LiesIn (a b : NameValue) : Type 0 where
  pub flag : a.absolute ≡ b.absolute
  pub front : List (List ℕ)
  pub labels : b.labels ≡ front ++ folded a

pub lies_in : (a b : NameValue) → is_at_or_below a b ≡ true → LiesIn a b
lies_in a b h = record {
  flag = (booleans_Decides a.absolute b.absolute).0 (first_so _ _ h);
  front = take (length b.labels - length (folded a)) b.labels;
  labels = (ends_is bytes_decides b.labels (folded a) _ refl).0 (second_so (beq a.absolute b.absolute) _ h);
}

pub lies_so : (a b : NameValue) → LiesIn a b → is_at_or_below a b ≡ true
lies_so a b h =
    ap (λ t. t && ends_with (pointwise nat_eq) b.labels (folded a)) ((booleans_Decides a.absolute b.absolute).1 h.flag)
    ∙ (ends_is bytes_decides b.labels (folded a) _ refl).1 h.front h.labels

flag_ties : (a b : Bool) → a ≡ b → bool_cmp a b ≡ Equal
flag_ties true true h = refl
flag_ties true false h = cc
flag_ties false true h = cc
flag_ties false false h = refl

-- the labels of what lies in a name, from the last on
turned : (a b : NameValue) → (h : LiesIn a b) → reverse b.labels ≡ reverse (folded a) ++ reverse h.front
turned a b h = ap reverse h.labels ∙ reverse-append h.front (folded a)

-- what lies at a name or below it isn't before the name
pub below_le : (a b : NameValue) → is_at_or_below a b ≡ true → is_le (lower_cmp (lowered a) b) ≡ true
below_le a b t =
    let h = lies_in a b t in
    ap (λ o. is_le (ordering_then o (labels_cmp (folded a) b.labels))) (flag_ties a.absolute b.absolute h.flag)
    ∙ ap (λ rs. is_le (slice_cmp label_cmp (reverse (folded a)) rs)) (turned a b h)
    ∙ front_le label_cmp (lists_total nat_cmp_total) label_exact (reverse (folded a)) (reverse h.front)

first_le : (o p : Ordering) → is_le (ordering_then o p) ≡ true → is_le o ≡ true
first_le Less p h = refl
first_le Equal p h = refl
first_le Greater p h = h

rest_le : (o p : Ordering) → is_le (ordering_then o p) ≡ true → o ≡ Equal → is_le p ≡ true
rest_le o p h e = sym (ap (λ q. is_le (ordering_then q p)) e) ∙ h

-- a flag between two that are the same is the same
flag_between : (a b c : Bool) → a ≡ c → is_le (bool_cmp a b) ≡ true → is_le (bool_cmp b c) ≡ true → a ≡ b
flag_between true true c e p q = refl
flag_between false false c e p q = refl
flag_between true false c e p q = absurd (false≢true p)
flag_between false true true e p q = e
flag_between false true false e p q = absurd (false≢true q)

-- and what stands between the name and what lies there lies there too
pub below_between : (a b c : NameValue) → is_le (lower_cmp (lowered a) b) ≡ true → is_le (lower_cmp b c) ≡ true
    → is_at_or_below a c ≡ true → is_at_or_below a b ≡ true
below_between a b c p q t =
    let h = lies_in a c t in
    let flag : a.absolute ≡ b.absolute = flag_between a.absolute b.absolute c.absolute h.flag (first_le _ _ p)
    (first_le _ _ q) in
    let rest = between label_cmp (lists_total nat_cmp_total) label_exact (reverse (folded a)) (reverse b.labels)
    (reverse h.front)
    (rest_le (bool_cmp a.absolute b.absolute) (labels_cmp (folded a) b.labels) p (flag_ties a.absolute b.absolute flag))
    (subst (λ rs. is_le (slice_cmp label_cmp (reverse b.labels) rs) ≡ true) (turned a c h)
    (rest_le (bool_cmp b.absolute c.absolute) (labels_cmp b.labels c.labels) q (flag_ties b.absolute c.absolute
    (sym flag ∙ h.flag)))) in
    lies_so a b (record {
      flag = flag;
      front = reverse rest.0;
      labels = sym (reverse-reverse b.labels) ∙ ap reverse rest.1 ∙ reverse-append (reverse (folded a)) rest.0
          ∙ ap (λ xs. reverse rest.0 ++ xs) (reverse-reverse (folded a));
    })
