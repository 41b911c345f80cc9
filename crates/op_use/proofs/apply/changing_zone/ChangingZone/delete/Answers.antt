use Rattle.base.specs.names.NameOrder.{same_name}
use Rattle.base.specs.declared.rr_key.RrKey.{RrKey}
use Rattle.op_use.proofs.ChangingSteps.{moves_so, stays_so}
use Rattle.op_use.proofs.TypeSteps.{any_is}
use Rattle.op_use.proofs.UpdateSteps.{clears, deletes}
use Rattle.op_use.proofs.apply.changing_zone.ChangingZone.delete.Goals as goal
use Rattle.op_use.specs.HeldZone.{HeldZone, zone_held}
use Rattle.op_use.specs.MapUpdates.{HoldsAt}
use Rattle.op_use.specs.Server.{is_any}
use Rattle.op_use.specs.Zone.{is_guarded}
use Rattle.rr.specs.Record.{type_of_record}
use Rattle.rr.specs.RecordSet.{is_ns, is_soa}
use Rattle.std.proofs.Common.{[], ap, not, subst, sym, ◌&&◌, ◌||◌, ◌∙◌}

pub returns-then-is_guarded : goal.returns-then-is_guarded
returns-then-is_guarded c =
    let z = c.args.self.now in
    let r = c.args.entry.now in
    stays_so z r (λ xs. []) _ (deletes z.origin z.class z.sets r c.requires
    (ap is_any (sym c.record_type.ensures) ∙ any_is c.record_type.result ∙ sym c.eq.ensures ∙ c.if-eq.false))
    (ap not (ap (λ (y : HeldZone). is_guarded (zone_held y) c.args.entry.now.name (type_of_record c.args.entry.now))
    (sym c.self.view_is)
    ∙ ap (λ t. same_name c.args.entry.now.name c.self.inside.origin.now && (is_soa t || is_ns t))
    (sym c.record_type-2.ensures)
    ∙ sym c.is_guarded.ensures ∙ c.if-is_guarded.true))

pub returns : goal.returns
returns c =
    let z = c.args.self.now in
    let r = c.args.entry.now in
    moves_so z c.remove.new.self r (λ xs. []) _ (deletes z.origin z.class z.sets r c.requires
    (ap is_any (sym c.record_type.ensures) ∙ any_is c.record_type.result ∙ sym c.eq.ensures ∙ c.if-eq.false))
    (ap not (ap (λ (y : HeldZone). is_guarded (zone_held y) c.args.entry.now.name (type_of_record c.args.entry.now))
    (sym c.self.view_is)
    ∙ ap (λ t. same_name c.args.entry.now.name c.self.inside.origin.now && (is_soa t || is_ns t))
    (sym c.record_type-2.ensures)
    ∙ sym c.is_guarded.ensures ∙ c.if-is_guarded.false))
    (subst (λ (k : RrKey). HoldsAt k [] z c.remove.new.self) c.in_ok-key.ensures c.remove.ensures)

pub returns-then-eq : goal.returns-then-eq
returns-then-eq c =
    let z = c.args.self.now in
    record {
      rest = c.in_ok-remove_owner.ensures.rest;
      holds = λ h. clears z.origin z.class z.sets c.args.entry.now h c.remove_owner.new.self.sets c.requires
          (ap is_any (sym c.record_type.ensures) ∙ any_is c.record_type.result ∙ sym c.eq.ensures ∙ c.if-eq.true)
          c.in_ok-remove_owner.ensures.holds;
    }
