use Rattle.base.specs.RrKey.{key_cmp}
use Rattle.base.specs.declared.rr_key.RrKey.{RrKey}
use Rattle.base.specs.names.NameOrder.{same_lower}
use Rattle.op_use.proofs.ChangingSteps.{map_part, sets_retained}
use Rattle.op_use.proofs.apply.changing_zone.ChangingZone.remove_owner.Goals as goal
use Rattle.op_use.specs.HeldZone.{HeldZone, zone_held}
use Rattle.op_use.specs.MapUpdates.{LacksOwner}
use Rattle.op_use.specs.Zone.{is_guarded}
use Rattle.std.proofs.Common.{None, ap, cond, not, refl, rules, subst, ◌||◌, ◌∙◌}
use Rattle.std.specs.BTreeMap.{get}

pub invariant_of-self : goal.invariant_of-self
invariant_of-self c =
    let i = c.self.inside in
    let z : HeldZone = record { origin = i.origin.now; class = i.class; sets = i.sets } in
    let stays = λ (k : RrKey). not (same_lower c.in_ok-least.least.name k.name)
    || is_guarded (zone_held z) c.args.owner.now k.record_type in
    map_part i.class stays i.sets c.retain.new.self
    (sets_retained _ stays _ i.sets c.retain.new.self (λ k v b w f' t. search rules) c.retain.ensures.filtered)
    c.self.invariant

pub returns : goal.returns
returns c =
    let i = c.self.inside in
    let z : HeldZone = record { origin = i.origin.now; class = i.class; sets = i.sets } in
    let stays = λ (k : RrKey). not (same_lower c.in_ok-least.least.name k.name)
    || is_guarded (zone_held z) c.args.owner.now k.record_type in
    subst (λ (y : HeldZone). LacksOwner c.args.owner.now y (record z { sets = c.retain.new.self })) c.self.view_is
    (record {
      rest = refl;
      holds = λ q. sets_retained _ stays _ i.sets c.retain.new.self (λ k v b w f' t. search rules)
          c.retain.ensures.filtered q
          ∙ ap (λ (l : RrKey). cond (not (same_lower l.name q.name)
          || is_guarded (zone_held z) c.args.owner.now q.record_type) (get key_cmp i.sets q) None)
          c.in_ok-least.ensures;
    })
