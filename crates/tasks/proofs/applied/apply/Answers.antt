use Rattle.std.proofs.Common.{Ok, ap, false, inl, rules, sym, true, ℕ, ◌∙◌}
use Rattle.std.proofs.lemmas.Result.{err_from_is_err_and}
use Rattle.std.specs.Prelude.{Vec}
use Rattle.std.specs.declared.alloc.Global.{Global}
use Rattle.op.specs.Message.{message_value}
use Rattle.op_use.specs.Server.{sections_of}
use Rattle.parsed_zone.proofs.ZoneMaps.{parsed_map}
use Rattle.parsed_zone.specs.Faults.{zone_number}
use Rattle.tasks.proofs.RefusalLemmas.{not_fitting, refusal_comes}
use Rattle.tasks.proofs.AppliedText.{class_refused_text, text_left}
use Rattle.tasks.specs.Applied.{IsApplied}
use Rattle.tasks.specs.ZoneText.{FitsWire}
use Rattle.tasks.specs.ZoneText.IsZoneText.{refused, unfit, written}
use Rattle.tasks.proofs.applied.apply.Goals as goal

pub returns-in_err-message : goal.returns-in_err-message
returns-in_err-message c =
    let p = err_from_is_err_and c.from_residual.result c.from_residual.ensures.1 in
    rw (p.1, p.2) (refusal_comes (IsApplied c.args.update.now c.args.origin.now c.args.text.now)
    c.in_err-message.field-0.0.number c.in_err-message.ensures.made (λ is. refused is))

pub returns-then-not-fits_wire : goal.returns-then-not-fits_wire
returns-then-not-fits_wire c =
    inl (unfit c.in_ok-message.ensures.made (not_fitting
    (FitsWire c.in_ok-message.sets.entries) c.fits_wire.result c.fits_wire.ensures.1 c.if-not-fits_wire.true))

pub sets_after-requires : goal.sets_after-requires
sets_after-requires c = parsed_map c.in_ok-message.sets c.in_ok-message.ensures.kept

pub returns-in_err-code : goal.returns-in_err-code
returns-in_err-code c =
    let p = err_from_is_err_and c.from_residual-in_err-code.result c.from_residual-in_err-code.ensures.1 in
    let fits : FitsWire c.in_ok-message.sets.entries = c.fits_wire.ensures.0 (search rules) in
    rw (p.1, p.2) (refusal_comes (IsApplied c.args.update.now c.args.origin.now c.args.text.now)
    (zone_number c.in_err-code.field-0.0)
    (class_refused_text (sections_of (message_value c.in_ok-message.message))
    (c.in_ok-message.zone, c.in_ok-message.sets.entries) _ c.in_err-code.ensures.refused)
    (λ is. written c.in_ok-message.ensures.made fits is))

pub returns-then-has_two_anames : goal.returns-then-has_two_anames
returns-then-has_two_anames c =
    let fits : FitsWire c.in_ok-message.sets.entries = c.fits_wire.ensures.0 (search rules) in
    inl (written c.in_ok-message.ensures.made fits
    (text_left c.in_ok-message.zone (sections_of (message_value c.in_ok-message.message)) c.in_ok-message.sets
    c.in_ok-code.changed c.in_ok-code.code
    c.has_two_anames.ensures.ordered c.in_ok-code.ensures.applied c.in_ok-code.ensures.all true
    (sym c.if-has_two_anames.true ∙ c.has_two_anames.ensures.found)))

pub returns : goal.returns
returns c =
    let fits : FitsWire c.in_ok-message.sets.entries = c.fits_wire.ensures.0 (search rules) in
    inl (written c.in_ok-message.ensures.made fits
    (text_left c.in_ok-message.zone (sections_of (message_value c.in_ok-message.message)) c.in_ok-message.sets
    c.in_ok-code.changed c.in_ok-code.code
    c.has_two_anames.ensures.ordered c.in_ok-code.ensures.applied c.in_ok-code.ensures.all false
    (sym c.if-has_two_anames.false ∙ c.has_two_anames.ensures.found)
    ∙ ap Ok (sym c.in_ok-update_lines.ensures.lines)
    ∙ ap (λ (lines : Vec ℕ Global). Ok lines.items) (sym c.into_bytes.ensures.value)))
