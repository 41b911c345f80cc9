use Rattle.std.proofs.Common.{IfSome, ◌≡◌, ◌∙◌, subst, sym}
use Rattle.std.specs.Prelude.{◌≢◌}
use Rattle.commands.proofs.RunLemmas.{refusal_given, refusal_judged, same_command}
use Rattle.commands.specs.Answer.{IsShown, broken, refused}
use Rattle.commands.specs.Command.{IsGiven, command_of, refused_word}
use Rattle.commands.specs.Words.{as_bytes}
use Rattle.commands.proofs.run.run.Goals as goal

pub returns-in-Err-Refused-clause-judged : goal.returns-in-Err-Refused-clause-judged
returns-in-Err-Refused-clause-judged g c command named =
    let words = as_bytes c.args.words.now in
    let old = g.W.Write.contents c.args.output.now in
    let new = g.W.Write.contents c.print_refusal.new.output in
    subst (λ it. IfSome (refused_word it words)
    (λ n. (c.answer.new.input ≡ c.args.input.now)
    × (c.print_refusal.result ≢ broken → IsShown (refused n) c.print_refusal.result old new)))
    (same_command c.in-Ok-Some.command command (command_of words)
    (sym c.in-Ok-Some.field-0-is ∙ c.in-Ok-Some.ensures.value) named)
    (refusal_judged (c.answer.new.input ≡ c.args.input.now) c.print_refusal.result old new words c.in-Ok-Some.command
    c.in-Err-Refused.field-0 c.in-Err-Refused.refusal c.number.result
    c.in-Err-Refused.ensures.judged c.in-Err-Refused.field-0-is c.number.ensures c.print_refusal.ensures)

pub returns-in-Err-Refused-clause-answered : goal.returns-in-Err-Refused-clause-answered
returns-in-Err-Refused-clause-answered g c command named whole =
    let words = as_bytes c.args.words.now in
    let old = g.W.Write.contents c.args.output.now in
    let new = g.W.Write.contents c.print_refusal.new.output in
    subst (λ it. IfSome (g.R.Read.remaining c.args.input.now)
    (λ input. IsGiven it words input c.print_refusal.result old new))
    (same_command c.in-Ok-Some.command command (command_of words)
    (sym c.in-Ok-Some.field-0-is ∙ c.in-Ok-Some.ensures.value) named)
    (refusal_given c.print_refusal.result old new
    (g.R.Read.remaining c.args.input.now) words c.in-Ok-Some.command c.in-Err-Refused.field-0 c.in-Err-Refused.refusal
    c.number.result
    c.in-Err-Refused.ensures.gives c.in-Err-Refused.field-0-is c.number.ensures c.print_refusal.ensures whole)
