use Rattle.std.proofs.Common.{sym, ◌∙◌}
use Rattle.commands.proofs.LimitLemmas.{limit_read}
use Rattle.commands.proofs.limit.limit.Goals as goal

pub returns : goal.returns
returns c = c.ok.ensures.value ∙ limit_read c.args.word.now c.parse.result
    (sym c.are_digits.ensures ∙ c.if-not-are_digits.false) c.parse.ensures.value.0
