use Rattle.base.proofs.names.KeyLemmas.{key_cmp-total}
use Rattle.base.specs.RrKey.{key_cmp}
use Rattle.base.specs.names.Labels.{NameValue}
use Rattle.base.specs.names.NameOrder.{same_lower}
use Rattle.base.specs.declared.rr_key.RrKey.{RrKey}
use Rattle.op_use.proofs.ChangingSteps.{map_part}
use Rattle.op_use.proofs.KeySets.{Sets, none_in, one_more, put_beside, put_here}
use Rattle.op_use.proofs.OwnerKeys.{all_here, all_start}
use Rattle.op_use.proofs.WalkSteps.{passes_over, passes_to, stepped}
use Rattle.op_use.proofs.apply.changing_zone.ChangingZone.open.Goals as goal
use Rattle.op_use.proofs.apply.changing_zone.ChangingZone.open.Invariants.{IsOpening}
use Rattle.op_use.specs.Applying.{IsZoneMap}
use Rattle.op_use.specs.HeldZone.{HeldZone}
use Rattle.op_use.specs.MapUpdates.{has_key}
use Rattle.op_use.specs.OwnerWalk.{HasFrom, entries_from, least}
use Rattle.op_use.specs.Zone.{is_owned}
use Rattle.rr.specs.RecordSet.{SetValue}
use Rattle.std.proofs.Common.{[], List, None, Some, ap, cond, rules, subst, sym, true, ◌++◌, ◌∙◌, ◌∷◌, ◌≡◌}
use Rattle.std.proofs.lemmas.Bool.{not-false}
use Rattle.std.proofs.lemmas.List.Elements.{All-filter, All-head, All-tail}
use Rattle.std.proofs.lemmas.Map.Views.{All-found}
use Rattle.std.specs.BTreeMap.{BTreeMap, get}
use Rattle.std.specs.List.{All}

abbrev Found : BTreeMap RrKey SetValue → RrKey × SetValue → Type 0
Found m e = get key_cmp m e.0 ≡ Some e.1

pub loop-key-init : goal.loop-key-init
loop-key-init c =
    let owner = c.args.owner.now in
    let m = c.args.zone.now.sets in
    let lent = c.into_iter-key-iterator.ensures.into_iter_gives ∙ c.in_ok-items.ensures.cases in
    let left = lent ∙ c.in_ok-walk.ensures in (
      (
        all_start owner c.in_ok-least.least _ m.entries _ c.new-found.ensures.items c.in_ok-least.ensures
            c.requires.ordered left,
        λ q. none_in c.new-sets.result q c.new-sets.ensures.empty
            ∙ sym (ap (λ ks. cond (has_key q ks) (get key_cmp m q) None) c.new-found.ensures.items),
        subst (All (Found m)) (sym left)
            (All-filter _ (Found m) m.entries (All-found key_cmp-total m c.requires.ordered)),
      ),
      (
        sym lent,
        λ later less. passes_to m owner later less c.args.walk.now c.into_iter-key-iterator.result c.requires
            (left ∙ ap (λ k. entries_from k m.entries) c.in_ok-least.ensures),
      ),
      tt,
      tt,
    )

-- one set more
more : (owner : NameValue) (m part new : BTreeMap RrKey SetValue) (found next : List RrKey)
    (left rest : List (RrKey × SetValue)) (j k : RrKey) (s t : SetValue) → next ≡ found ++ k ∷ []
    → left ≡ (k, s) ∷ rest → is_owned owner k ≡ true → j ≡ k → t ≡ s → Sets j (Some t) part new
    → IsOpening owner m found part left → IsOpening owner m next new rest
more owner m part new found next left rest j k s t grown first own copy same puts (keys, sets, all) =
    let here = subst (All (Found m)) first all in
    let put = subst (λ x. Sets x (Some t) part new) copy puts in (
      all_here owner found grown first own keys,
      subst (λ ks. (q : RrKey) → get key_cmp new q ≡ cond (has_key q ks) (get key_cmp m q) None) (sym grown)
          (one_more (λ q. get key_cmp m q) (λ q. None) k found part sets new
          (put_here k (Some t) part new put ∙ ap Some same ∙ sym (All-head (Found m) (k, s) rest here))
          (put_beside k (Some t) part new put)),
      All-tail (Found m) (k, s) rest here,
    )

pub loop-key-preserved : goal.loop-key-preserved
loop-key-preserved c =
    let owner = c.args.owner.now in
    let m = c.args.zone.now.sets in
    let own : is_owned owner c.in-Some.key.now ≡ true =
    ap (λ k. same_lower k.name c.in-Some.key.now.name) (sym c.in_ok-least.ensures)
    ∙ not-false _ (sym c.ne.ensures ∙ c.if-ne.false) in (
      more owner m c.loop-key.sets c.insert.new.self c.loop-key.found.items c.push.new.self.items
          c.loop-key.key-iterator c.next.new.self c.in_ok-clone-2.field-0 c.in-Some.key.now c.in-Some.set.now
          c.of_zone.result (search rules) c.in-Some.ensures.steps own (search rules) c.of_zone.ensures
          c.in_ok-insert.ensures.updates.0 c.loop-key.invariant.0,
      (
        stepped c.next-in-loop-key.result c.loop-key.walk c.next-in-loop-key.new.self
            (c.in-Some.key.now, c.in-Some.set.now) c.next.new.self c.next-in-loop-key.ensures.steps
            (c.loop-key.invariant.1.0 ∙ c.in-Some.ensures.steps),
        λ later less. passes_over m owner later less (c.in-Some.key.now, c.in-Some.set.now) c.next.new.self own
            (subst (HasFrom (least later) m) c.in-Some.ensures.steps (c.loop-key.invariant.1.1 later less)),
      ),
      tt,
      tt,
    )

pub invariant_of-part : goal.invariant_of-part
invariant_of-part c =
    let class = c.zone.inside.class in
    map_part class (λ q. has_key q c.loop-key.found.items) c.args.zone.now.sets c.loop-key.sets
    c.loop-key.invariant.0.1
    (subst (λ (y : HeldZone). IsZoneMap class y.sets) c.zone.view_is c.zone.invariant)

pub returns-clause-zone : goal.returns-clause-zone
returns-clause-zone c = subst (λ (y : HeldZone). IsZoneMap y.class y.sets) c.zone.view_is c.zone.invariant
