use Rattle.std.proofs.Common.{of_z, subst, sym, to_z, w64, ℤ, ◌∙◌, ◌≡◌, refl}
use Rattle.std.proofs.lemmas.Int.{to_z-of_z}
use Rattle.tasks.specs.ZoneText.{zone_asked}
use Rattle.capi.proofs.HoldingLemmas.{opening_made, opening_refused}
use Rattle.capi.specs.ZoneHandle.{IsOpenAt}
use Rattle.capi.specs.declared.zone_handle.holding.Holding.TheVariants as holdings
use Rattle.capi.proofs.zone_handle.fuzsbanel_zone_open.Goals as goal

pub returns-in-Ok-clause-opened : goal.returns-in-Ok-clause-opened
returns-in-Ok-clause-opened c =
    let old = c.args.handle.now.zone in
    let new = c.open_at.new.handle.zone in
    let answered : ℤ = to_z w64 (of_z w64 c.open_at.result) in
    let same : answered ≡ c.open_at.result = to_z-of_z w64 c.open_at.result (record { sfits = c.open_at.type_inv }) in
    opening_made (zone_asked c.args.origin.now c.args.text.now c.args.included.now c.args.included_bytes.now) old new
    answered c.in-Ok.zone c.in-Ok.ensures
    (subst (IsOpenAt (holdings.Own c.in-Ok.zone) old new) (sym same) c.open_at.ensures)

pub returns-clause-opened : goal.returns-clause-opened
returns-clause-opened c =
    opening_refused (zone_asked c.args.origin.now c.args.text.now c.args.included.now c.args.included_bytes.now)
    c.args.handle.now.zone c.args.handle.now.zone _ c.in-Err.refusal.number c.in-Err.ensures refl
    (to_z-of_z w64 c.number.result (record { sfits = c.number.type_inv }) ∙ c.number.ensures)
