-- In the order of lists, those that begin with a list stand side by side, from it on.
use Rattle.std.proofs.Common.{ap, refl, sym, ◌∙◌, ◌++◌}
use Rattle.std.proofs.lemmas.Bool.{false≢true}
use Rattle.std.specs.Cmp.{IsTotalOrder}
use Rattle.std.specs.Cmp.Lexicographic.{slice_cmp}
use Rattle.std.specs.Ordering.{is_le, ordering_reverse, ordering_then}
use Rattle.std.specs.Prelude.{List, [], true, ◌∷◌, ◌≡◌}
use Rattle.std.specs.declared.cmp.Ordering.TheVariants.{Equal, Greater, Less}
use Rattle.std.specs.declared.cmp.Ordering.{Ordering}

module _ {A : Type 0} (R : A → A → Ordering) (total : IsTotalOrder R) (exact : (x y : A) → R x y ≡ Equal → x ≡ y) where
  tied : (o : Ordering) → o ≡ ordering_reverse o → o ≡ Equal
  tied Less h = cc
  tied Equal h = refl
  tied Greater h = cc

  -- a list comes before those that it begins
  pub front_le : (xs ys : List A) → is_le (slice_cmp R xs (xs ++ ys)) ≡ true
  front_le [] [] = refl
  front_le [] (y ∷ ys) = refl
  front_le (x ∷ xs) ys = ap (λ o. is_le (ordering_then o (slice_cmp R xs (xs ++ ys)))) (tied (R x x)
      (total.antisymm x x)) ∙ front_le xs ys

  sooner : (x y : A) (xs ys zs : List A) → (o : Ordering) → R x y ≡ o
      → (is_le (slice_cmp R xs ys) ≡ true → is_le (slice_cmp R ys (xs ++ zs)) ≡ true
      → (rest : List A) × (ys ≡ xs ++ rest))
      → is_le (ordering_then (R x y) (slice_cmp R xs ys)) ≡ true
      → is_le (ordering_then (R y x) (slice_cmp R ys (xs ++ zs))) ≡ true
      → (rest : List A) × (y ∷ ys ≡ x ∷ (xs ++ rest))
  sooner x y xs ys zs Less e more p q = absurd (false≢true (sym (ap (λ o. is_le (ordering_then o (slice_cmp R ys
      (xs ++ zs)))) (total.antisymm y x ∙ ap ordering_reverse e)) ∙ q))
  sooner x y xs ys zs Greater e more p q = absurd (false≢true (sym (ap (λ o. is_le (ordering_then o
      (slice_cmp R xs ys))) e) ∙ p))
  sooner x y xs ys zs Equal e more p q =
      let rest = more (sym (ap (λ o. is_le (ordering_then o (slice_cmp R xs ys))) e) ∙ p)
      (sym (ap (λ o. is_le (ordering_then o (slice_cmp R ys (xs ++ zs)))) (total.antisymm y x
      ∙ ap ordering_reverse e)) ∙ q) in
      (rest.0, ap (λ z. z ∷ ys) (sym (exact x y e)) ∙ ap (λ ws. x ∷ ws) rest.1)

  -- and what stands between a list and one that it begins begins with it
  pub between : (xs ys zs : List A) → is_le (slice_cmp R xs ys) ≡ true → is_le (slice_cmp R ys (xs ++ zs)) ≡ true
      → (rest : List A) × (ys ≡ xs ++ rest)
  between [] ys zs p q = (ys, refl)
  between (x ∷ xs) [] zs p q = absurd (false≢true p)
  between (x ∷ xs) (y ∷ ys) zs p q = sooner x y xs ys zs (R x y) refl (between xs ys zs) p q
