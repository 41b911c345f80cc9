-- Data of records that an update changed.
use Rattle.base_data.specs.SameData.{same_data}
use Rattle.base_data.specs.declared.rdata.RData.{RData}
use Rattle.op_use.specs.NamedChanges.{datum_of, is_data_of}
use Rattle.op_use.specs.Server.{added, removed}
use Rattle.rr.proofs.SetSteps.{replaced_none}
use Rattle.rr.specs.SetChanges.{has_data_of, joined, replaced, without}
use Rattle.rr.specs.declared.record.Record.{Record}
use Rattle.std.proofs.Common.{ap, refl, sym, ◌∙◌}
use Rattle.std.proofs.lemmas.List.{append-nil, map-append}
use Rattle.std.specs.List.{list_any}
use Rattle.std.specs.Prelude.{Bool, List, [], cond, false, if◌then◌else◌, map, not, true, ◌++◌, ◌||◌, ◌∷◌, ◌≡◌}

-- data of changed records
pub any_data : (r : Record RData) (xs : List (Record RData))
    → list_any (λ d. is_data_of d r) (map datum_of xs) ≡ list_any (has_data_of r) xs
any_data r [] = refl
any_data r (x ∷ xs) = ap (λ b. same_data x.rdata r.rdata || b) (any_data r xs)

datum_if : (b : Bool) (r x : Record RData) → datum_of (if b then r else x) ≡ (if b then datum_of r else datum_of x)
datum_if true r x = refl
datum_if false r x = refl

replaced_data : (r : Record RData) (xs : List (Record RData))
    → map datum_of (replaced r xs) ≡ map (λ d. if is_data_of d r then datum_of r else d) (map datum_of xs)
replaced_data r [] = refl
replaced_data r (x ∷ xs) = λ i. datum_if (same_data x.rdata r.rdata) r x i ∷ replaced_data r xs i

joined_when : (r : Record RData) (xs : List (Record RData)) (b : Bool) → list_any (has_data_of r) xs ≡ b
    → replaced r xs ++ (if b then [] else r ∷ []) ≡ (if b then replaced r xs else xs ++ r ∷ [])
joined_when r xs true any = append-nil (replaced r xs)
joined_when r xs false none = ap (λ ys. ys ++ r ∷ []) (replaced_none r xs none)

-- a record that joins others takes the places of equal data, or stands after all
pub joined_is : (r : Record RData) (xs : List (Record RData))
    → joined r xs ≡ (if list_any (has_data_of r) xs then replaced r xs else xs ++ r ∷ [])
joined_is r xs = joined_when r xs (list_any (has_data_of r) xs) refl

joined_at : (r : Record RData) (xs : List (Record RData)) (b : Bool)
    → map datum_of (if b then replaced r xs else xs ++ r ∷ [])
    ≡ (if b then map (λ d. if is_data_of d r then datum_of r else d) (map datum_of xs)
    else map datum_of xs ++ datum_of r ∷ [])
joined_at r xs true = replaced_data r xs
joined_at r xs false = map-append datum_of xs (r ∷ [])

pub joined_data : (r : Record RData) (xs : List (Record RData)) → map datum_of (joined r xs) ≡ added (map datum_of xs) r
joined_data r xs = ap (map datum_of) (joined_is r xs) ∙ joined_at r xs (list_any (has_data_of r) xs)
    ∙ ap (λ b. if b then map (λ d. if is_data_of d r then datum_of r else d) (map datum_of xs)
    else map datum_of xs ++ datum_of r ∷ []) (sym (any_data r xs))

mapped_if : (b : Bool) (x : Record RData) (xs : List (Record RData))
    → map datum_of (cond b (x ∷ xs) xs) ≡ cond b (datum_of x ∷ map datum_of xs) (map datum_of xs)
mapped_if true x xs = refl
mapped_if false x xs = refl

pub without_data_of : (r : Record RData) (xs : List (Record RData))
    → map datum_of (without r xs) ≡ removed (map datum_of xs) r
without_data_of r [] = refl
without_data_of r (x ∷ xs) = mapped_if (not (has_data_of r x)) x (without r xs)
    ∙ (λ i. cond (not (has_data_of r x)) (datum_of x ∷ without_data_of r xs i) (without_data_of r xs i))
