-- Whether an outcome has anything, by which is told whether an update changed the zone.
use Rattle.base.specs.RrKey.{key_cmp}
use Rattle.base.specs.declared.rr_key.RrKey.{RrKey}
use Rattle.op_use.proofs.ZoneSteps.{tied}
use Rattle.op_use.specs.Applying.{IsChangeTold}
use Rattle.op_use.specs.MapUpdates.{has_key}
use Rattle.op_use.specs.Outcome.{Change, HasAny, Installs, IsOutcome, changed, found}
use Rattle.op_use.specs.declared.apply.outcome.Outcome.{Outcome}
use Rattle.rr.specs.RecordSet.{SetValue}
use Rattle.std.proofs.Common.{ap, length, refl, sym, ◌∙◌}
use Rattle.std.proofs.lemmas.Bool.{eqb-true, true≢false}
use Rattle.std.proofs.lemmas.List.{nil_from_length}
use Rattle.std.specs.BTreeMap as tree
use Rattle.std.specs.BTreeMap.{BTreeMap}
use Rattle.std.specs.Prelude.{Bool, List, Some, [], cond, false, is_some, not, true, ◌&&◌, ◌==◌, ◌||◌, ◌∷◌, ◌≡◌}

-- an item is there
no_length : {X : Type 0} (xs : List X) → xs ≡ [] → false ≡ (length xs == 0) → ⊥
no_length xs none some = true≢false (ap (λ ys. length ys == 0) (sym none) ∙ sym some)

module _ (o : Outcome) where
  any_added : false ≡ (length o.added.items == 0) → HasAny true o
  any_added some = by o.added.items refl where
    by : (es : List (RrKey × SetValue)) → o.added.items ≡ es → HasAny true o
    by [] e = absurd (no_length o.added.items e some)
    by (x ∷ es) e = (
      x.0,
      λ none. true≢false (sym (ap (λ es. is_some (found es x.0)) e
          ∙ ap (λ b. is_some (cond b (Some x.1) (found es x.0))) (tied x.0))
          ∙ ap (λ (c : Change). is_some c.added) none),
    )

  any_replaced : false ≡ (length o.replaced.items == 0) → HasAny true o
  any_replaced some = by o.replaced.items refl where
    by : (es : List (RrKey × SetValue)) → o.replaced.items ≡ es → HasAny true o
    by [] e = absurd (no_length o.replaced.items e some)
    by (x ∷ es) e = (
      x.0,
      λ none. true≢false (sym (ap (λ es. is_some (found es x.0)) e
          ∙ ap (λ b. is_some (cond b (Some x.1) (found es x.0))) (tied x.0))
          ∙ ap (λ (c : Change). is_some c.replaced) none),
    )

  any_gone : false ≡ (length o.gone.items == 0) → HasAny true o
  any_gone some = by o.gone.items refl where
    by : (ks : List RrKey) → o.gone.items ≡ ks → HasAny true o
    by [] e = absurd (no_length o.gone.items e some)
    by (k ∷ ks) e = (
      k,
      λ none. true≢false (sym (ap (has_key k) e ∙ ap (λ b. b || has_key k ks) (tied k))
          ∙ ap (λ (c : Change). c.is_gone) none),
    )

  none_told : true ≡ (length o.added.items == 0) → true ≡ (length o.replaced.items == 0)
      → true ≡ (length o.gone.items == 0) → HasAny false o
  none_told a r g q = λ i. record {
    added = found (empty o.added.items a i) q;
    replaced = found (empty o.replaced.items r i) q;
    is_gone = has_key q (empty o.gone.items g i);
  } where
    empty : {X : Type 0} (xs : List X) → true ≡ (length xs == 0) → xs ≡ []
    empty xs e = nil_from_length xs (eqb-true (length xs) 0 (sym e))

-- by whether each of its lists is empty
pub any_told : (o : Outcome) (a r g : Bool) → a ≡ (length o.added.items == 0) → r ≡ (length o.replaced.items == 0)
    → g ≡ (length o.gone.items == 0) → HasAny (not ((a && r) && g)) o
any_told o false r g added replaced gone = any_added o added
any_told o true false g added replaced gone = any_replaced o replaced
any_told o true true false added replaced gone = any_gone o gone
any_told o true true true added replaced gone = none_told o added replaced gone

-- so is told whether it makes a change
pub change_told : (o : Outcome) (old new : BTreeMap RrKey SetValue) (any : Bool) → HasAny any o → IsOutcome o old
    → Installs o old new → IsChangeTold any old new
change_told o old new true (q, some) fits installs = (q, λ same. some ((fits q).alters (sym (installs q) ∙ same)))
change_told o old new false none fits installs =
    λ q. installs q ∙ ap (λ (c : Change). changed c (tree.get key_cmp old q)) (none q)
