use Rattle.std.proofs.Common.{Err, Ok, Result, of_z, subst, sym, to_z, w64, ℤ, ◌∙◌, ◌≡◌}
use Rattle.std.proofs.lemmas.Int.{to_z-of_z}
use Rattle.std.specs.declared.sync.Arc.{Arc}
use Rattle.std.specs.declared.alloc.Global.{Global}
use Rattle.tasks.specs.declared.refusal.Refusal.{Refusal}
use Rattle.capi.proofs.HoldingLemmas.{sharing_made, sharing_refused}
use Rattle.capi.specs.Holding.{Shares, zone_held, zone_in}
use Rattle.capi.specs.ZoneHandle.{IsOpenAt}
use Rattle.capi.specs.declared.zone_handle.held.HeldZone.{HeldZone}
use Rattle.capi.specs.declared.zone_handle.holding.Holding.TheVariants as holdings
use Rattle.capi.proofs.zone_handle.fuzsbanel_zone_share.Goals as goal

pub returns-in-Ok-clause-other : goal.returns-in-Ok-clause-other
returns-in-Ok-clause-other c =
    let made : Result (Arc HeldZone Global) Refusal = Ok c.in-Ok.shared in
    let answered : ℤ = to_z w64 (of_z w64 c.open_at.result) in
    let same : answered ≡ c.open_at.result = to_z-of_z w64 c.open_at.result (record { sfits = c.open_at.type_inv }) in
    let shares : Shares (zone_held c.args.handle.now.zone) made =
    subst (λ h. Shares (zone_held h) made) c.in-Some.ensures.zone
    (subst (λ h. Shares (zone_in h) made) c.deref_mut.ensures.value c.in-Ok.ensures.shared) in
    sharing_made (zone_held c.args.handle.now.zone) c.in-Ok.shared c.args.other.now.zone c.open_at.new.handle.zone
    answered shares
    (subst (IsOpenAt (holdings.Shared c.in-Ok.shared) c.args.other.now.zone c.open_at.new.handle.zone) (sym same)
    c.open_at.ensures)

pub returns-in-Err-clause-other : goal.returns-in-Err-clause-other
returns-in-Err-clause-other c =
    let made : Result (Arc HeldZone Global) Refusal = Err c.in-Err.refusal in
    let shares : Shares (zone_held c.args.handle.now.zone) made =
    subst (λ h. Shares (zone_held h) made) c.in-Some.ensures.zone
    (subst (λ h. Shares (zone_in h) made) c.deref_mut.ensures.value c.in-Err.ensures.shared) in
    sharing_refused (zone_held c.args.handle.now.zone) c.in-Err.refusal (zone_held c.args.other.now.zone) _ shares
    (to_z-of_z w64 c.refusal_code.result (record { sfits = c.refusal_code.type_inv }) ∙ c.refusal_code.ensures)
