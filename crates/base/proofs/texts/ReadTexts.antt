-- Texts that are read by a table.
use Rattle.std.proofs.Common.{◌≡◌, Bool, true, false, cond, ◌&&◌, Some, List, [], ◌∷◌, refl, sym, ◌∙◌, ap}
use Rattle.std.specs.List.{find, list_all}

both_true : (a b : Bool) → (a && b) ≡ true → (a ≡ true) × (b ≡ true)
both_true true b both = (refl, both)
both_true false b both = cc

-- what `find` gives passes, and passes what all items pass
found_here : {X : Type 0} (p q : X → Bool) (y : X) (ys : List X) (x : X) (b : Bool) → p y ≡ b → q y ≡ true
    → (find p ys ≡ Some x → (p x ≡ true) × (q x ≡ true))
    → cond b (Some y) (find p ys) ≡ Some x → (p x ≡ true) × (q x ≡ true)
found_here p q y ys x true passes all later found = let same : y ≡ x = cc in
    (ap p (sym same) ∙ passes, ap q (sym same) ∙ all)
found_here p q y ys x false passes all later found = later found

pub find-passes : {X : Type 0} (p q : X → Bool) (xs : List X) (x : X) → list_all q xs ≡ true → find p xs ≡ Some x
    → (p x ≡ true) × (q x ≡ true)
find-passes p q [] x all found = cc
find-passes p q (y ∷ ys) x all found = found_here p q y ys x (p y) refl (both_true (q y) (list_all q ys) all).0
    (find-passes p q ys x (both_true (q y) (list_all q ys) all).1) found
