use Rattle.base.specs.RrKey.{key_cmp}
use Rattle.base.specs.declared.rr_key.RrKey.{RrKey}
use Rattle.op_use.proofs.OutcomeSteps.{new_now, updates_owner}
use Rattle.op_use.proofs.apply.zone.Zone.update_owner.Goals as goal
use Rattle.op_use.specs.Applying.{IsZoneMap}
use Rattle.op_use.specs.HeldZone.{HeldZone}
use Rattle.op_use.specs.Outcome.{each}
use Rattle.std.proofs.Common.{ap, is_some, not, refl, rules, subst, ◌++◌, ◌≡◌, ◌∙◌}
use Rattle.std.proofs.lemmas.Fn.{filter_same}
use Rattle.std.proofs.lemmas.Result.{on_ok_weaker}
use Rattle.std.specs.BTreeMap.{get}

pub settle-requires-clause-fits : goal.settle-requires-clause-fits
settle-requires-clause-fits c =
    subst (λ (z : HeldZone). IsZoneMap z.class c.into_sets-sets.result) c.in_ok-keys.ensures.sets.rest
    (subst (λ (z : HeldZone). IsZoneMap z.class c.into_sets-sets.result) c.in_ok-update.ensures.rest
    c.into_sets-sets.ensures.fits)

pub settle-requires-clause-new : goal.settle-requires-clause-new
settle-requires-clause-new c =
    let gone : c.append.new.self.items ≡ c.args.outcome.now.gone.items ++ c.retain.new.self.items = search rules in
    new_now c.args.owner.now c.args.self.now c.in_ok-keys.part c.update.new.self (each c.args.entries.now)
    c.in_ok-keys.keys.items c.into_sets-sets.result c.args.outcome.now
    (record c.args.outcome.now { gone = c.append.new.self }) c.in_ok-keys.ensures.zone c.requires.names
    c.requires.new c.in_ok-keys.ensures.keys c.in_ok-keys.ensures.sets c.in_ok-update.ensures
    c.into_sets-sets.ensures.sets refl refl (gone ∙ ap (λ ks. c.args.outcome.now.gone.items ++ ks)
    (filter_same _ (λ (k : RrKey). not (is_some (get key_cmp c.into_sets-sets.result k))) _ (λ x b f' t. search rules)
    _ _ c.retain.ensures.filtered))

pub returns-clause-updates : goal.returns-clause-updates
returns-clause-updates c =
    let gone : c.append.new.self.items ≡ c.args.outcome.now.gone.items ++ c.retain.new.self.items = search rules in
    on_ok_weaker c.settle.result (λ settles.
    updates_owner c.args.owner.now c.args.self.now c.in_ok-keys.part c.update.new.self (each c.args.entries.now)
    c.in_ok-keys.keys.items c.into_sets-sets.result c.args.outcome.now
    (record c.args.outcome.now { gone = c.append.new.self }) c.in_ok-keys.ensures.zone c.requires.names
    c.requires.new c.in_ok-keys.ensures.keys c.in_ok-keys.ensures.sets c.in_ok-update.ensures
    c.into_sets-sets.ensures.sets refl refl (gone ∙ ap (λ ks. c.args.outcome.now.gone.items ++ ks)
    (filter_same _ (λ (k : RrKey). not (is_some (get key_cmp c.into_sets-sets.result k))) _ (λ x b f' t. search rules)
    _ _ c.retain.ensures.filtered)) c.settle.new.outcome settles) c.settle.ensures
