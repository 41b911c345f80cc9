use Rattle.std.proofs.Common.{inl, rules, sym, ◌∙◌}
use Rattle.std.proofs.lemmas.Result.{err_from_is_err_and}
use Rattle.parsed_zone.proofs.ZoneMaps.{parsed_map}
use Rattle.tasks.proofs.RefusalLemmas.{not_fitting, refusal_comes}
use Rattle.tasks.specs.ZoneText.{FitsWire, zone_asked}
use Rattle.capi.specs.ZoneHandle.{IsHeld}
use Rattle.capi.specs.ZoneHandle.IsHeld.{foreign, refused, unfit, whole}
use Rattle.capi.proofs.zone_handle.zone_of.Goals as goal

pub returns-in_err-origin : goal.returns-in_err-origin
returns-in_err-origin c =
    let p = err_from_is_err_and c.from_residual.result c.from_residual.ensures.1 in
    rw (p.1, p.2) (refusal_comes (IsHeld (zone_asked c.args.origin.now c.args.text.now
    c.args.included.now c.args.included_bytes.now))
    c.in_err-origin.field-0.0.number c.in_err-origin.ensures.made (λ is. refused is))

pub returns-then-not-fits_wire : goal.returns-then-not-fits_wire
returns-then-not-fits_wire c =
    inl (unfit c.in_ok-origin.ensures.made (not_fitting
    (FitsWire c.in_ok-origin.sets.entries) c.fits_wire.result c.fits_wire.ensures.1 c.if-not-fits_wire.true))

pub returns-then-not-are_sets_in : goal.returns-then-not-are_sets_in
returns-then-not-are_sets_in c =
    let fits : FitsWire c.in_ok-origin.sets.entries = c.fits_wire.ensures.0 (search rules) in
    inl (foreign c.in_ok-origin.ensures.made fits (sym c.are_sets_in.ensures ∙ c.if-not-are_sets_in.true))

pub invariant_of-result-clause-kept : goal.invariant_of-result-clause-kept
invariant_of-result-clause-kept c = parsed_map c.in_ok-origin.sets c.in_ok-origin.ensures.kept
    (sym c.are_sets_in.ensures ∙ c.if-not-are_sets_in.false)

pub returns : goal.returns
returns c =
    let fits : FitsWire c.in_ok-origin.sets.entries = c.fits_wire.ensures.0 (search rules) in
    inl (whole c.in_ok-origin.ensures.made fits (sym c.are_sets_in.ensures ∙ c.if-not-are_sets_in.false))
