use Rattle.std.proofs.Common.{ap, of_z, subst, sym, to_z, w64, ℤ, ◌∙◌, ◌≡◌}
use Rattle.std.proofs.lemmas.Int.{to_z-of_z}
use Rattle.std.specs.Prelude.{Some, neg_ℤ, pos}
use Rattle.capi.proofs.HoldingLemmas.{ends_own, ends_shared, updating_own, updating_stays}
use Rattle.capi.specs.Holding.{EndsAlone, zone_in}
use Rattle.capi.specs.ZoneHandle.{IsUpdated, IsUpdating, parts_in}
use Rattle.capi.proofs.zone_handle.update_held.Goals as goal

pub returns-in-Err-clause-updating : goal.returns-in-Err-clause-updating
returns-in-Err-clause-updating c =
    let old = c.args.holding.now in
    let new = c.make_own.new.self in
    let same : to_z w64 (of_z w64 c.refusal_code.result) ≡ neg_ℤ (pos 3) =
    to_z-of_z w64 c.refusal_code.result (record { sfits = c.refusal_code.type_inv })
    ∙ c.refusal_code.ensures ∙ ap (λ n. neg_ℤ (pos n)) c.into.ensures in
    subst (IsUpdating c.args.update.now (zone_in old) (zone_in new) c.args.is_changed.now) (sym same)
    (subst (λ b. IsUpdating c.args.update.now (zone_in old) (zone_in new) b (neg_ℤ (pos 3))) (sym c.requires)
    (updating_stays c.args.update.now old new c.in-Err.ensures.refused.0 c.in-Err.ensures.refused.1))

pub returns-in-Err-clause-alone : goal.returns-in-Err-clause-alone
returns-in-Err-clause-alone c =
    let old = c.args.holding.now in
    let new = c.make_own.new.self in
    let same : to_z w64 (of_z w64 c.refusal_code.result) ≡ neg_ℤ (pos 3) =
    to_z-of_z w64 c.refusal_code.result (record { sfits = c.refusal_code.type_inv })
    ∙ c.refusal_code.ensures ∙ ap (λ n. neg_ℤ (pos n)) c.into.ensures in
    subst (EndsAlone (Some old) (Some new)) (sym same) (ends_shared old new c.in-Err.ensures.refused.0)

pub returns-in-Own-clause-updating : goal.returns-in-Own-clause-updating
returns-in-Own-clause-updating c =
    let answered : ℤ = to_z w64 (of_z w64 c.update_zone.result) in
    let same : answered ≡ c.update_zone.result =
    to_z-of_z w64 c.update_zone.result (record { sfits = c.update_zone.type_inv }) in
    updating_own c.args.update.now (zone_in c.args.holding.now) c.in-Own.zone c.update_zone.new.zone
    c.update_zone.new.is_changed answered
    (subst (λ h. parts_in h ≡ parts_in c.args.holding.now) c.in-Own.is c.in_default.ensures.own.1)
    (subst (IsUpdated c.args.update.now c.in-Own.zone c.update_zone.new.zone c.update_zone.new.is_changed) (sym same)
    c.update_zone.ensures)

pub returns-in-Own-clause-alone : goal.returns-in-Own-clause-alone
returns-in-Own-clause-alone c = ends_own (Some c.args.holding.now) c.update_zone.new.zone _
