-- The flags of names, which are two at most.
use Rattle.base.proofs.names.CompareLemmas.{then_Equal}
use Rattle.base.specs.names.Labels.{NameValue}
use Rattle.base_data.specs.DataOrder.{flag_cmp, flags_cmp}
use Rattle.std.proofs.Common.{List, [], ◌∷◌, ◌≤◌, ap, arith, length, map, refl, sym, ◌≡◌}
use Rattle.std.specs.Option.{option_cmp}
use Rattle.std.specs.Ordering.{ordering_then}
use Rattle.std.specs.Prelude.{slice_get}

-- the order of flags is that of the first, and then that of the second
pub flags_told : (xs ys : List NameValue) → length xs ≤ 2 → length ys ≤ 2
    → ordering_then (option_cmp flag_cmp (slice_get xs 0) (slice_get ys 0))
    (option_cmp flag_cmp (slice_get xs 1) (slice_get ys 1)) ≡ flags_cmp (map (λ x. x.absolute) xs)
    (map (λ y. y.absolute) ys)
flags_told [] [] p q = refl
flags_told (x ∷ []) (y ∷ []) p q = refl
flags_told (x ∷ x' ∷ []) (y ∷ y' ∷ []) p q = ap (ordering_then (flag_cmp x y)) (sym (then_Equal (flag_cmp x' y')))
flags_told (x ∷ x' ∷ []) (y ∷ y' ∷ y'' ∷ ys) p q = absurd (omega arith)
flags_told (x ∷ x' ∷ x'' ∷ xs) (y ∷ y' ∷ ys) p q = absurd (omega arith)
flags_told xs ys p q = refl
