-- Where the records of a changed set come from.
use Rattle.base_data.specs.declared.rdata.RData.{RData}
use Rattle.op_use.proofs.AppliedData.{joined_is}
use Rattle.rr.specs.SetChanges.{has_data_of, joined, replaced, without}
use Rattle.rr.specs.declared.record.Record.{Record}
use Rattle.std.proofs.Common.{arith, inl, inr, subst, sym, ◌⊎◌}
use Rattle.std.proofs.lemmas.Bool.{cond_both}
use Rattle.std.specs.List.{IsAmong, list_any}
use Rattle.std.specs.Prelude.{Bool, List, [], false, if◌then◌else◌, length, not, slice_index_or, suc, true, zero}
use Rattle.std.specs.Prelude.{ℕ, ◌++◌, ◌<◌, ◌∷◌, ◌≡◌}

pub later_among : {X : Type 0} (x y : X) (xs : List X) → IsAmong xs y → IsAmong (x ∷ xs) y
later_among x y xs h = (suc h.0, (omega arith, h.1.1))

parts_at : {X : Type 0} (x y : X) (xs : List X) (i : ℕ) → i < length (x ∷ xs) → y ≡ slice_index_or (x ∷ xs) i y
    → (y ≡ x) ⊎ IsAmong xs y
parts_at x y xs zero h e = inl e
parts_at x y xs (suc i) h e = inr (i, (omega arith, e))

pub among_parts : {X : Type 0} (x y : X) (xs : List X) → IsAmong (x ∷ xs) y → (y ≡ x) ⊎ IsAmong xs y
among_parts x y xs h = parts_at x y xs h.0 h.1.0 h.1.1

pub none_among : {X A : Type 0} (y : X) → IsAmong [] y → A
none_among y h = absurd (omega arith)

-- each of ys is one of xs, or r
abbrev pub From : Record RData → List (Record RData) → List (Record RData) → Type 0
From r xs ys = (v : Record RData) → IsAmong ys v → IsAmong xs v ⊎ IsAmong (r ∷ []) v

from_more : (r x : Record RData) (xs : List (Record RData)) (v : Record RData) → IsAmong xs v ⊎ IsAmong (r ∷ []) v
    → IsAmong (x ∷ xs) v ⊎ IsAmong (r ∷ []) v
from_more r x xs v (inl h) = inl (later_among x v xs h)
from_more r x xs v (inr h) = inr h

head_from : (r x : Record RData) (xs : List (Record RData)) (v : Record RData) (b : Bool) → v ≡ (if b then r else x)
    → IsAmong (x ∷ xs) v ⊎ IsAmong (r ∷ []) v
head_from r x xs v true e = inr (zero, (omega arith, e))
head_from r x xs v false e = inl (zero, (omega arith, e))

step_from : (r x : Record RData) (xs ys : List (Record RData)) (v : Record RData) (b : Bool) → From r xs ys
    → (v ≡ (if b then r else x)) ⊎ IsAmong ys v
    → IsAmong (x ∷ xs) v ⊎ IsAmong (r ∷ []) v
step_from r x xs ys v b more (inl e) = head_from r x xs v b e
step_from r x xs ys v b more (inr h) = from_more r x xs v (more v h)

from_replaced : (r : Record RData) (xs : List (Record RData)) → From r xs (replaced r xs)
from_replaced r [] = λ v h. inl h
from_replaced r (x ∷ xs) = λ v h. step_from r x xs (replaced r xs) v (has_data_of r x) (from_replaced r xs)
    (among_parts (if has_data_of r x then r else x) v (replaced r xs) h)

from_last : (r : Record RData) (xs : List (Record RData)) → From r xs (xs ++ r ∷ [])
from_last r [] = λ v h. inr h
from_last r (x ∷ xs) = λ v h. step_from r x xs (xs ++ r ∷ []) v false (from_last r xs)
    (among_parts x v (xs ++ r ∷ []) h)

pub from_joined : (r : Record RData) (xs : List (Record RData)) → From r xs (joined r xs)
from_joined r xs = subst (λ ys. From r xs ys) (sym (joined_is r xs))
    (cond_both (list_any (has_data_of r) xs) _ _ (From r xs) (λ _. from_replaced r xs) (λ _. from_last r xs))

pub from_without : (r : Record RData) (xs : List (Record RData)) → From r xs (without r xs)
from_without r [] = λ v h. inl h
from_without r (x ∷ xs) = cond_both (not (has_data_of r x)) (x ∷ without r xs) (without r xs) (From r (x ∷ xs))
    (λ _ v h. step_from r x xs (without r xs) v false (from_without r xs) (among_parts x v (without r xs) h))
    (λ _ v h. from_more r x xs v (from_without r xs v h))

pub from_one : (r : Record RData) (xs : List (Record RData)) → From r xs (r ∷ [])
from_one r xs = λ v h. inr h

pub from_none : (r : Record RData) (xs : List (Record RData)) → From r xs []
from_none r xs = λ v h. none_among v h

pub from_same : (r : Record RData) (xs : List (Record RData)) → From r xs xs
from_same r xs = λ v h. inl h
