use Rattle.std.proofs.Common.{Err, inl, of_z, refl, subst, sym, to_z, w64, ◌≡◌}
use Rattle.std.proofs.lemmas.Int.{to_z-of_z}
use Rattle.tasks.specs.Refusals.{closed}
use Rattle.capi.specs.Answer.{IsTurnedAway}
use Rattle.capi.specs.Holding.{zone_held}
use Rattle.capi.specs.ZoneTransfer.{IsServedFrom}
use Rattle.capi.proofs.zone_handle.transfer.fuzsbanel_zone_serve_transfer.Goals as goal

pub returns-in-None-clause-served : goal.returns-in-None-clause-served
returns-in-None-clause-served c =
    let same : to_z w64 (of_z w64 c.go_on-in-None.result) ≡ c.go_on-in-None.result =
    to_z-of_z w64 c.go_on-in-None.result (record { sfits = c.go_on-in-None.type_inv }) in
    let comes : IsServedFrom (zone_held c.args.handle.now.zone) c.args.query.now c.args.place.now (Err closed) =
    subst (λ h. IsServedFrom (zone_held h) c.args.query.now c.args.place.now (Err closed)) c.in-None.ensures.zone
    refl in
    inl (
      Err closed,
      comes,
      (
        c.go_on-in-None.ensures.0,
        subst (IsTurnedAway closed c.args.out.now c.go_on-in-None.new.out c.go_on-in-None.new.needed) (sym same)
            c.go_on-in-None.ensures.1,
      ),
    )
