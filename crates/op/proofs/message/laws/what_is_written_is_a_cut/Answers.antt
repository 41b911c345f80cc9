use Rattle.op.proofs.writing.CutOf.{written_is_cut}
use Rattle.op.proofs.message.laws.what_is_written_is_a_cut.Goals as goal

pub returns : goal.returns
returns c = λ m limit B fits kept small answer. written_is_cut m limit B fits kept small answer
