use Rattle.std.proofs.Common.{◌∙◌, rules}
use Rattle.base.specs.declared.limits.TheConstants.{MAX_MESSAGE}
use Rattle.op.specs.Message.{message_value}
use Rattle.op.proofs.writing.AnswerLemmas.{new_answer, new_of}
use Rattle.op_use.proofs.dns_response.write.Goals as goal

pub returns-clause-answer : goal.returns-clause-answer
returns-clause-answer c = new_answer (message_value c.args.message.now) MAX_MESSAGE _ (new_of c.new-encoder.ensures) _
    c.in_ok-emit.ensures.answer.0 ∙ search rules
