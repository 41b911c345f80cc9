use Rattle.op.proofs.writing.UncutLemmas.{uncut_written}
use Rattle.op.proofs.message.laws.uncut_is_the_message.Goals as goal

pub returns : goal.returns
returns c = uncut_written
