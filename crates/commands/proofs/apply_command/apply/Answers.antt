use Rattle.std.proofs.Common.{Ok}
use Rattle.std.proofs.lemmas.Result.{err_from_is_err_and}
use Rattle.std.specs.String.{string_bytes}
use Rattle.op.specs.Message.{message_value}
use Rattle.parsed_zone.proofs.TextLemmas.{number_told}
use Rattle.parsed_zone.proofs.ZoneMaps.{parsed_map}
use Rattle.parsed_zone.specs.Faults.{zone_number}
use Rattle.commands.proofs.ApplyLemmas.{lines_refused, text_answers, text_refused}
use Rattle.commands.proofs.apply_command.apply.Goals as goal

pub lines_after-requires : goal.lines_after-requires
lines_after-requires c = parsed_map c.in_ok-name.sets c.in_ok-name.ensures.kept

pub returns-in_err-name : goal.returns-in_err-name
returns-in_err-name c =
    let p = err_from_is_err_and c.from_residual.result c.from_residual.ensures.1 in
    rw (p.1, p.2) (text_refused (message_value c.args.message.now) c.args.origin c.args.text.now
    (zone_number c.in_err-name.field-0.0) (number_told _ _ c.in_err-name.ensures.zone))

pub returns-in_err-lines_after : goal.returns-in_err-lines_after
returns-in_err-lines_after c =
    let p = err_from_is_err_and c.from_residual-in_err-lines_after.result
    c.from_residual-in_err-lines_after.ensures.1 in
    rw (p.1, p.2) (lines_refused (message_value c.args.message.now) c.args.origin c.args.text.now
    (c.in_ok-name.name, c.in_ok-name.sets.entries)
    (zone_number c.in_err-lines_after.field-0.0) c.in_ok-name.ensures.zone
    (number_told _ _ c.in_err-lines_after.ensures))

pub returns : goal.returns
returns c =
    text_answers (message_value c.args.message.now) c.args.origin c.args.text.now
    (c.in_ok-name.name, c.in_ok-name.sets.entries)
    (Ok (string_bytes c.in_ok-lines_after.field-0)) c.in_ok-name.ensures.zone c.in_ok-lines_after.ensures
