use Rattle.std.proofs.Common.{Ok, ap, sym, ◌∙◌}
use Rattle.std.proofs.lemmas.Result.{err_from_is_err_and}
use Rattle.parsed_zone.proofs.TextLemmas.{number_told}
use Rattle.parsed_zone.specs.Faults.{zone_number}
use Rattle.commands.proofs.ZoneLemmas.{zone_answers, zone_refused}
use Rattle.commands.specs.Answer.{done}
use Rattle.commands.specs.Words.{as_bytes}
use Rattle.commands.proofs.zone_command.zone.Goals as goal

pub returns-in_err-name : goal.returns-in_err-name
returns-in_err-name c =
    let p = err_from_is_err_and c.from_residual-in_err-name.result c.from_residual-in_err-name.ensures.1 in
    rw (p.1, p.2) (zone_refused c.args.origin
    (as_bytes c.args.words.now) c.args.text.now c.in_ok-includes.includes c.in_ok-includes.ensures
    (zone_number c.in_err-name.field-0.0) (number_told _ _ c.in_err-name.ensures))

pub returns : goal.returns
returns c =
    zone_answers c.args.origin (as_bytes c.args.words.now) c.args.text.now c.in_ok-includes.includes
    c.in_ok-includes.ensures
    (Ok (c.in_ok-name.name, c.in_ok-name.sets)) c.in_ok-name.ensures ∙ ap done (sym c.in_ok-sets_lines.ensures)
