use Rattle.std.proofs.Common.{ap, sym, ◌∙◌, Ok}
use Rattle.std.proofs.lemmas.Result.{err_from_is_err_and}
use Rattle.std.specs.String.{string_bytes}
use Rattle.op.specs.Message.{message_value}
use Rattle.commands.specs.CutCommand.{hex_line}
use Rattle.commands.proofs.CutLemmas.{cut_answers, refusal_answers}
use Rattle.commands.proofs.cut_command.cut.Goals as goal

pub returns-in_err-written : goal.returns-in_err-written
returns-in_err-written c =
    let p = err_from_is_err_and c.from_residual-in_err-written.result c.from_residual-in_err-written.ensures.1 in
    let found = c.in_ok-message.ensures.found in
    rw (p.1, p.2) (refusal_answers c.args.limit c.args.text.now c.deref.result.now
    (message_value c.in_ok-message.message) found.0
    (c.in_ok-bytes.ensures ∙ ap Ok (sym c.deref.ensures.value)) found.1 c.in_err-written.field-0.0
    c.in_err-written.ensures.refusal)

pub returns : goal.returns
returns c =
    let found = c.in_ok-message.ensures.found in
    cut_answers c.args.limit c.args.text.now c.deref.result.now (message_value c.in_ok-message.message) found.0
    (c.in_ok-bytes.ensures ∙ ap Ok (sym c.deref.ensures.value)) found.1 c.in_ok-written.written.items
    (string_bytes c.in_ok-hex_line.field-0) (c.in_ok-written.ensures.written c.in_ok-message.ensures.fits)
    c.in_ok-written.ensures.answer (c.in_ok-hex_line.ensures ∙ ap hex_line c.deref-2.ensures.value)
