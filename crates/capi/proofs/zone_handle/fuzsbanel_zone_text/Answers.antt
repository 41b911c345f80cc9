use Rattle.std.proofs.Common.{Err, inl, of_z, refl, subst, sym, to_z, w64, ◌≡◌}
use Rattle.std.proofs.lemmas.Int.{to_z-of_z}
use Rattle.tasks.specs.Refusals.{closed}
use Rattle.capi.specs.Answer.{IsTurnedAway}
use Rattle.capi.specs.Holding.{zone_held}
use Rattle.capi.specs.ZoneHandle.{IsHeldText}
use Rattle.capi.proofs.zone_handle.fuzsbanel_zone_text.Goals as goal

pub returns-in-None-clause-text : goal.returns-in-None-clause-text
returns-in-None-clause-text c =
    let same : to_z w64 (of_z w64 c.give-in-None.result) ≡ c.give-in-None.result =
    to_z-of_z w64 c.give-in-None.result (record { sfits = c.give-in-None.type_inv }) in
    let comes : IsHeldText (zone_held c.args.handle.now.zone) (Err closed) =
    subst (λ h. IsHeldText (zone_held h) (Err closed)) c.in-None.ensures.zone refl in
    inl (
      Err closed,
      comes,
      subst (IsTurnedAway closed c.args.out.now c.give-in-None.new.out c.give-in-None.new.needed) (sym same)
          c.give-in-None.ensures,
    )
