use Rattle.base.specs.RrKey.{key_cmp}
use Rattle.op_use.proofs.MapZones.{set_at, types_at}
use Rattle.op_use.proofs.TypeSteps.{any_is}
use Rattle.op_use.proofs.apply.zone.Zone.is_found.Goals as goal
use Rattle.op_use.specs.HeldZone.{HeldZone, zone_held}
use Rattle.op_use.specs.Server.{is_any, is_found}
use Rattle.std.proofs.Common.{IfOk, ap, is_some, subst, sym, true, ◌∙◌, ◌≡◌}
use Rattle.std.proofs.lemmas.Bool.{cond-false, cond-true}
use Rattle.std.specs.BTreeMap.{get}

pub returns-then-eq : goal.returns-then-eq
returns-then-eq c = subst (λ v. IfOk c.has_type.result (λ b. b ≡ v))
    (sym (types_at c.self.inside.origin.now c.self.inside.class c.self.inside.sets.now c.args.entry.now.name
    (λ t. true))
    ∙ sym (cond-true _ _ _ (ap is_any (sym c.record_type.ensures) ∙ any_is c.record_type.result ∙ sym c.eq.ensures
    ∙ c.if-eq.true))
    ∙ ap (λ (z : HeldZone). is_found (zone_held z) c.args.entry.now) c.self.view_is) c.has_type.ensures

pub returns : goal.returns
returns c = c.contains_key.ensures
    ∙ ap (λ k. is_some (get key_cmp c.self.inside.sets.now k)) c.in_ok-key.ensures
    ∙ sym (set_at c.self.inside.origin.now c.self.inside.class c.self.inside.sets.now _)
    ∙ sym (cond-false _ _ _ (ap is_any (sym c.record_type.ensures) ∙ any_is c.record_type.result ∙ sym c.eq.ensures
    ∙ c.if-eq.false))
    ∙ ap (λ (z : HeldZone). is_found (zone_held z) c.args.entry.now) c.self.view_is
