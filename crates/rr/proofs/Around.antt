-- Records of which one alone has the data of another: that one, and those before it and after it.
use Rattle.base_data.specs.SameData.{same_data}
use Rattle.base_data.specs.declared.rdata.RData.{RData}
use Rattle.rr.proofs.SetLaws.{Distinct, Far, apart, laws, parts_of}
use Rattle.rr.proofs.SetSteps.{replaced_none, without_none}
use Rattle.rr.specs.SetChanges.{first_of, has_data_of, joined, replaced, without}
use Rattle.rr.specs.declared.record.Record.{Record}
use Rattle.std.proofs.Common.{ap, drop, refl, sym, take, ◌∙◌}
use Rattle.std.proofs.lemmas.Bool.{cond-false, cond-true, or_parts}
use Rattle.std.proofs.lemmas.List.{append-nil}
use Rattle.std.proofs.lemmas.List.Elements.{filter-append}
use Rattle.std.proofs.lemmas.List.Folds.{list_any-append}
use Rattle.std.proofs.lemmas.Option.{same_Some}
use Rattle.std.proofs.Math.Bool.{or-true}
use Rattle.std.specs.List.{list_any, slice_get}
use Rattle.std.specs.Prelude.{List, Some, [], cond, false, if◌then◌else◌, not, set, suc, true, zero, ℕ, ◌++◌, ◌||◌, ◌∷◌}
use Rattle.std.specs.Prelude.{◌≡◌}

-- a list around a place, and once another element stands there
pub cut : {X : Type 0} (xs : List X) (p : ℕ) (x w : X) → slice_get xs p ≡ Some x
    → (xs ≡ take p xs ++ x ∷ drop (suc p) xs) × (set xs p w ≡ take p xs ++ w ∷ drop (suc p) xs)
cut [] p x w h = absurd cc
cut (y ∷ ys) zero x w h = (ap (λ z. z ∷ ys) (same_Some y x h), refl)
cut (y ∷ ys) (suc p) x w h =
    let rest = cut ys p x w h in
    (ap (λ zs. y ∷ zs) rest.0, ap (λ zs. y ∷ zs) rest.1)

far_none : (k r : Record RData) (xs : List (Record RData)) → same_data k.rdata r.rdata ≡ true → Far k xs
    → list_any (has_data_of r) xs ≡ false
far_none k r [] same far = refl
far_none k r (x ∷ xs) same far =
    λ i. apart x k r (laws.symm x.rdata k.rdata ∙ far.0) same i || far_none k r xs same far.1 i

far_at : (x k : Record RData) (a b : List (Record RData)) → Far x (a ++ k ∷ b) → same_data x.rdata k.rdata ≡ false
far_at x k [] b h = h.0
far_at x k (y ∷ a) b h = far_at x k a b h.1

-- of records of which no two have equal data, one alone has it
pub alone : (r k : Record RData) (a b : List (Record RData)) → Distinct (a ++ k ∷ b) → same_data k.rdata r.rdata ≡ true
    → (list_any (has_data_of r) a ≡ false) × (list_any (has_data_of r) b ≡ false)
alone r k [] b d same = (refl, far_none k r b same (parts_of k b d).0)
alone r k (x ∷ a) b d same =
    let parts : Far x (a ++ k ∷ b) × Distinct (a ++ k ∷ b) = parts_of x (a ++ k ∷ b) d in
    let rest = alone r k a b parts.1 same in
    (λ i. apart x k r (far_at x k a b parts.0) same i || rest.0 i, rest.1)

pub any_around : (r k : Record RData) (a b : List (Record RData)) → same_data k.rdata r.rdata ≡ true
    → list_any (has_data_of r) (a ++ k ∷ b) ≡ true
any_around r k a b same = list_any-append (has_data_of r) a (k ∷ b)
    ∙ (λ i. list_any (has_data_of r) a || (same i || list_any (has_data_of r) b)) ∙ or-true (list_any (has_data_of r) a)

replaced_around : (r k : Record RData) (a b : List (Record RData)) → list_any (has_data_of r) a ≡ false
    → list_any (has_data_of r) b ≡ false → same_data k.rdata r.rdata ≡ true → replaced r (a ++ k ∷ b) ≡ a ++ r ∷ b
replaced_around r k [] b before after same =
    λ i. cond-true (has_data_of r k) r k same i ∷ replaced_none r b after i
replaced_around r k (x ∷ a) b before after same =
    let parts : (has_data_of r x ≡ false) × (list_any (has_data_of r) a ≡ false) =
    or_parts (has_data_of r x) _ before in
    λ i. cond-false (has_data_of r x) r x parts.0 i ∷ replaced_around r k a b parts.1 after same i

-- r joined to records of which one alone has its data stands in its place
pub joined_around : (r k : Record RData) (a b : List (Record RData))
    → (list_any (has_data_of r) a ≡ false) × (list_any (has_data_of r) b ≡ false) → same_data k.rdata r.rdata ≡ true
    → joined r (a ++ k ∷ b) ≡ a ++ r ∷ b
joined_around r k a b none same =
    ap (λ c. replaced r (a ++ k ∷ b) ++ (if c then [] else r ∷ [])) (any_around r k a b same)
    ∙ append-nil (replaced r (a ++ k ∷ b)) ∙ replaced_around r k a b none.0 none.1 same

-- and the others are left where it is taken out
pub without_around : (r k : Record RData) (a b : List (Record RData))
    → (list_any (has_data_of r) a ≡ false) × (list_any (has_data_of r) b ≡ false) → same_data k.rdata r.rdata ≡ true
    → without r (a ++ k ∷ b) ≡ a ++ b
without_around r k a b none same =
    filter-append (λ x. not (has_data_of r x)) a (k ∷ b) ∙ (λ i. without_none r a none.0 i
    ++ cond (not (same i)) (k ∷ without r b) (without_none r b none.1 i))

-- the first record of the data is that one
pub first_around : (r k : Record RData) (a b : List (Record RData)) → list_any (has_data_of r) a ≡ false
    → same_data k.rdata r.rdata ≡ true → first_of r.rdata (a ++ k ∷ b) ≡ Some k
first_around r k [] b none same = cond-true (same_data k.rdata r.rdata) (Some k) (first_of r.rdata b) same
first_around r k (x ∷ a) b none same =
    let parts : (has_data_of r x ≡ false) × (list_any (has_data_of r) a ≡ false) = or_parts (has_data_of r x) _ none in
    cond-false (same_data x.rdata r.rdata) (Some x) (first_of r.rdata (a ++ k ∷ b)) parts.0
    ∙ first_around r k a b parts.1 same

-- joined to records of which none has its data it stands after them
pub joined_after : (r : Record RData) (rs : List (Record RData)) → list_any (has_data_of r) rs ≡ false
    → rs ++ r ∷ [] ≡ joined r rs
joined_after r rs none = sym (λ i. replaced_none r rs none i ++ (if none i then [] else r ∷ []))
