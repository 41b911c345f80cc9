use Rattle.std.proofs.Common.{Ok, ap, inr, sym, ◌∙◌}
use Rattle.std.proofs.lemmas.Result.{err_from_is_err_and}
use Rattle.tasks.proofs.TextLemmas.{no_zone_named, zone_named, zone_unnamed}
use Rattle.tasks.proofs.zone.zone_name_of.Goals as goal

pub returns-then-is_empty : goal.returns-then-is_empty
returns-then-is_empty c = inr (no_zone_named c.args.text.now (sym c.if-is_empty.true ∙ c.is_empty.ensures))

pub returns-in_err-name : goal.returns-in_err-name
returns-in_err-name c =
    let p = err_from_is_err_and c.from_residual.result c.from_residual.ensures.1 in
    rw (p.1, p.2) (zone_unnamed c.args.text.now c.in_err-name.field-0.0.number
    (sym c.if-is_empty.false ∙ c.is_empty.ensures) c.in_err-name.ensures)

pub returns : goal.returns
returns c = zone_named c.args.text.now _ (sym c.if-is_empty.false ∙ c.is_empty.ensures) c.in_ok-name.ensures
    ∙ ap Ok (sym c.set_fqdn.ensures)
