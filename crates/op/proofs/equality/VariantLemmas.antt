-- What the comparisons derived on an enum answer, from what they answer at each variant.
use Rattle.std.proofs.Common.{◌≡◌, ◌⊎◌, ℕ, ◌+◌, ◌≤◌, Bool, false, List, [], ◌∷◌, refl, ap, sym, ◌∙◌, arith, inl, inr}
use Rattle.std.proofs.Common.{Option, Some}
use Rattle.std.specs.Bool.{Decides}
use Rattle.std.specs.Cmp.{nat_cmp_is}
use Rattle.std.specs.Ordering.{nat_cmp, on, ordering_then, then_cmp}
use Rattle.std.specs.declared.cmp.Ordering.{Ordering}
use Rattle.std.specs.declared.cmp.Ordering.TheVariants.{Less, Equal, Greater}
use denote.Enum.Compared.{Each, by}
use denote.Enum.Declared.{Choice, Record, values_one}
use denote.Struct.Field.{Field}
use denote.Struct.Values.{Values}

-- what is the same at five variants, in front of the others
abbrev pub five : {S T : Type 0} → S → T → S × (S × (S × (S × (S × T))))
five s t = (s, (s, (s, (s, (s, t)))))

-- the variants stand one after another from a place on
abbrev pub PlacedEach : (Fss : List (List Field)) → (Choice Fss → ℕ) → ℕ → Type 0
PlacedEach [] place n = Unit {0}
PlacedEach (Fs ∷ Fss) place n = ((x : Values Fs) → place (inl x) ≡ n) × PlacedEach Fss (λ c. place (inr c)) (n + 1)

-- two values of one variant are ordered by their numbers
abbrev pub OrderedEach : (Fss : List (List Field)) → (Choice Fss → ℕ) → Each (Option Ordering) Fss → Type 0
OrderedEach [] number each = Unit {0}
OrderedEach (Fs ∷ Fss) number each = ((x y : Values Fs) → each.0 x y ≡ Some (nat_cmp (number (inl x)) (number (inl y))))
    × OrderedEach Fss (λ c. number (inr c)) each.1

at_least : (Fss : List (List Field)) (place : Choice Fss → ℕ) (n : ℕ) → PlacedEach Fss place n → (c : Choice Fss)
    → n ≤ place c
at_least [] place n placed c = absurd c
at_least (Fs ∷ Fss) place n placed (inl x) = omega (arith, placed.0 x)
at_least (Fs ∷ Fss) place n placed (inr c) = omega (arith, at_least Fss (λ d. place (inr d)) (n + 1) placed.1 c)

by_places : (r : Ordering) (i j m n : ℕ) → r ≡ nat_cmp i j → (l : Ordering) → ordering_then r (nat_cmp m n) ≡ l
    → Some l ≡ Some (ordering_then (nat_cmp i j) (nat_cmp m n))
by_places r i j m n is l then_is = ap Some (sym then_is ∙ ap (λ s. ordering_then s (nat_cmp m n)) is)

choices_ordered : (Fss : List (List Field)) (place number : Choice Fss → ℕ) (n : ℕ) (each : Each (Option Ordering) Fss)
    → PlacedEach Fss place n → OrderedEach Fss number each
    → (c d : Choice Fss) → by (Some Less) (Some Greater) Fss each c d ≡ Some
    (ordering_then (nat_cmp (place c) (place d)) (nat_cmp (number c) (number d)))
choices_ordered [] place number n each placed ordered c d = absurd c
choices_ordered (Fs ∷ Fss) place number n each placed ordered (inl x) (inl y) =
    ordered.0 x y ∙ by_places Equal (place (inl x)) (place (inl y)) (number (inl x)) (number (inl y))
    (nat_cmp_is (place (inl x)) (place (inl y)) Equal (placed.0 x ∙ sym (placed.0 y)))
    (nat_cmp (number (inl x)) (number (inl y))) refl
choices_ordered (Fs ∷ Fss) place number n each placed ordered (inl x) (inr d) =
    by_places Less (place (inl x)) (place (inr d)) (number (inl x)) (number (inr d))
    (nat_cmp_is (place (inl x)) (place (inr d)) Less
    (omega (arith, placed.0 x, at_least Fss (λ e. place (inr e)) (n + 1) placed.1 d))) Less refl
choices_ordered (Fs ∷ Fss) place number n each placed ordered (inr c) (inl y) =
    by_places Greater (place (inr c)) (place (inl y)) (number (inr c)) (number (inl y))
    (nat_cmp_is (place (inr c)) (place (inl y)) Greater
    (omega (arith, placed.0 y, at_least Fss (λ e. place (inr e)) (n + 1) placed.1 c))) Greater refl
choices_ordered (Fs ∷ Fss) place number n each placed ordered (inr c) (inr d) =
    choices_ordered Fss (λ e. place (inr e)) (λ e. number (inr e)) (n + 1) each.1 placed.1 ordered.1 c d

-- by place, and two values of one variant by number
pub variants_ordered : (N : Record) (place number : N.D → ℕ) (each : Each (Option Ordering) N.parts)
    → PlacedEach N.parts (λ c. place (N.make c)) 0 → OrderedEach N.parts (λ c. number (N.make c)) each
    → (a b : N.D) → by (Some Less) (Some Greater) N.parts each (N.as_values a) (N.as_values b) ≡ Some
    (then_cmp (on place nat_cmp) (on number nat_cmp) a b)
variants_ordered N place number each placed ordered a b =
    choices_ordered N.parts (λ c. place (N.make c)) (λ c. number (N.make c)) 0 each placed ordered (N.as_values a)
    (N.as_values b)
    ∙ ap (λ x. Some (then_cmp (on place nat_cmp) (on number nat_cmp) x (N.make (N.as_values b)))) (N.eta a)
    ∙ ap (λ y. Some (then_cmp (on place nat_cmp) (on number nat_cmp) a y)) (N.eta b)

-- two values of one variant are equal exactly where their fields are
abbrev pub DecidedEach : (Fss : List (List Field)) → Each Bool Fss → Type 0
DecidedEach [] each = Unit {0}
DecidedEach (Fs ∷ Fss) each = ((x y : Values Fs) → Decides (each.0 x y) (x ≡ y)) × DecidedEach Fss each.1

module _ {A B : Type 0} where
  left_same : (x y : A) → ◌≡◌ {A = A ⊎ B} (inl x) (inl y) → x ≡ y
  left_same x y e = cc

  right_same : (x y : B) → ◌≡◌ {A = A ⊎ B} (inr x) (inr y) → x ≡ y
  right_same x y e = cc

  sides_differ : {P : Type 0} (x : A) (y : B) → ◌≡◌ {A = A ⊎ B} (inl x) (inr y) → P
  sides_differ x y e = absurd (let h = e in cc)

choices_Decide : (Fss : List (List Field)) (each : Each Bool Fss) → DecidedEach Fss each → (c d : Choice Fss)
    → Decides (by false false Fss each c d) (c ≡ d)
choices_Decide [] each decided c d = absurd c
choices_Decide (Fs ∷ Fss) each decided (inl x) (inl y) =
    (λ h. ap inl ((decided.0 x y).0 h), λ e. (decided.0 x y).1 (left_same x y e))
choices_Decide (Fs ∷ Fss) each decided (inl x) (inr d) = (λ h. absurd (let g = h in cc), λ e. sides_differ x d e)
choices_Decide (Fs ∷ Fss) each decided (inr c) (inl y) = (λ h. absurd (let g = h in cc), λ e. sides_differ y c (sym e))
choices_Decide (Fs ∷ Fss) each decided (inr c) (inr d) =
    let rest = choices_Decide Fss each.1 decided.1 c d in
    (λ h. ap inr (rest.0 h), λ e. rest.1 (right_same c d e))

pub variants_Decide : (N : Record) (each : Each Bool N.parts) → DecidedEach N.parts each → (a b : N.D)
    → Decides (by false false N.parts each (N.as_values a) (N.as_values b)) (a ≡ b)
variants_Decide N each decided a b =
    let values = choices_Decide N.parts each decided (N.as_values a) (N.as_values b) in
    (λ h. values_one N a b (values.0 h), λ e. values.1 (ap N.as_values e))
