use Rattle.std.proofs.Common.{Ok, ap, inl, rules, sym, ℕ, ◌∙◌}
use Rattle.std.proofs.lemmas.Result.{err_from_is_err_and}
use Rattle.std.specs.Prelude.{Vec}
use Rattle.std.specs.declared.alloc.Global.{Global}
use Rattle.tasks.proofs.RefusalLemmas.{not_fitting, refusal_comes}
use Rattle.tasks.specs.ZoneText.{FitsWire, IsCanonical}
use Rattle.tasks.specs.ZoneText.IsZoneText.{refused, unfit, written}
use Rattle.tasks.proofs.zone.canonical_text.Goals as goal

pub returns-in_err-name : goal.returns-in_err-name
returns-in_err-name c =
    let p = err_from_is_err_and c.from_residual.result c.from_residual.ensures.1 in
    rw (p.1, p.2) (refusal_comes (IsCanonical c.args.origin.now c.args.text.now) c.in_err-name.field-0.0.number
    c.in_err-name.ensures.zone (λ is. refused is))

pub returns-then-not-fits_wire : goal.returns-then-not-fits_wire
returns-then-not-fits_wire c =
    inl (unfit c.in_ok-name.ensures.zone (not_fitting
    (FitsWire c.in_ok-name.sets.entries) c.fits_wire.result c.fits_wire.ensures.1 c.if-not-fits_wire.true))

pub returns : goal.returns
returns c =
    let fits : FitsWire c.in_ok-name.sets.entries = c.fits_wire.ensures.0 (search rules) in
    inl (written c.in_ok-name.ensures.zone fits
    (ap Ok (sym c.in_ok-zone_lines.ensures.lines)
    ∙ ap (λ (lines : Vec ℕ Global). Ok lines.items) (sym c.into_bytes.ensures.value)))
