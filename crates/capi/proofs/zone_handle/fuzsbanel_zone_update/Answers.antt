use Rattle.std.proofs.Common.{Some, of_z, subst, sym, to_z, w64, ℤ, ◌≡◌}
use Rattle.std.proofs.lemmas.Int.{to_z-of_z}
use Rattle.capi.specs.Holding.{EndsAlone, zone_held, zone_in}
use Rattle.capi.specs.ZoneHandle.{IsUpdating}
use Rattle.capi.proofs.zone_handle.fuzsbanel_zone_update.Goals as goal

pub returns-in-Some-clause-updating : goal.returns-in-Some-clause-updating
returns-in-Some-clause-updating c =
    let update = c.args.update.now in
    let new = c.update_held-code.new.holding in
    let told = c.update_held-code.new.is_changed in
    let answered : ℤ = to_z w64 (of_z w64 c.update_held-code.result) in
    let same : answered ≡ c.update_held-code.result =
    to_z-of_z w64 c.update_held-code.result (record { sfits = c.update_held-code.type_inv }) in
    let updated : IsUpdating update (zone_in c.in-Some.holding.value) (zone_in new) told answered =
    subst (λ h. IsUpdating update (zone_in h) (zone_in new) told answered) c.deref_mut.ensures.value
    (subst (IsUpdating update (zone_in c.deref_mut.result.now) (zone_in new) told) (sym same)
    c.update_held-code.ensures.updating) in
    subst (λ h. IsUpdating update (zone_held c.args.handle.now.zone) (zone_held h) told answered) (sym c.put.ensures)
    (subst (λ h. IsUpdating update (zone_held h) (zone_in new) told answered) c.in-Some.ensures.zone updated)

pub returns-in-Some-clause-alone : goal.returns-in-Some-clause-alone
returns-in-Some-clause-alone c =
    let new = Some c.update_held-code.new.holding in
    let answered : ℤ = to_z w64 (of_z w64 c.update_held-code.result) in
    let same : answered ≡ c.update_held-code.result =
    to_z-of_z w64 c.update_held-code.result (record { sfits = c.update_held-code.type_inv }) in
    let ends : EndsAlone (Some c.in-Some.holding.value) new answered =
    subst (λ h. EndsAlone (Some h) new answered) c.deref_mut.ensures.value
    (subst (EndsAlone (Some c.deref_mut.result.now) new) (sym same) c.update_held-code.ensures.alone) in
    subst (λ h. EndsAlone c.args.handle.now.zone h answered) (sym c.put.ensures)
    (subst (λ h. EndsAlone h new answered) c.in-Some.ensures.zone ends)
