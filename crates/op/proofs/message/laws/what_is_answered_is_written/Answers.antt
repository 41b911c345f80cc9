use Rattle.std.specs.Prelude.{[]}
use Rattle.op.proofs.AnswerLaws.{answer_bytes}
use Rattle.op.proofs.message.laws.what_is_answered_is_written.Goals as goal

pub returns : goal.returns
returns c = λ m limit B is. answer_bytes m limit 0 [] B is
