use Rattle.std.proofs.Common.{◌∙◌, ap, rules}
use Rattle.base.specs.writing.State.{State}
use Rattle.op.specs.Message.{message_value}
use Rattle.op.proofs.writing.AnswerLemmas.{new_answer, new_of}
use Rattle.op.proofs.message.Message.to_vec_within.Goals as goal

pub returns-clause-answer : goal.returns-clause-answer
returns-clause-answer c =
    let empty = c.set_max_size.ensures ∙ ap (λ (s : State). record s { limit = c.args.limit }) c.new-encoder.ensures in
    new_answer (message_value c.args.self.now) c.args.limit _ (new_of empty) _ c.in_ok-emit.ensures.answer.0
    ∙ search rules
