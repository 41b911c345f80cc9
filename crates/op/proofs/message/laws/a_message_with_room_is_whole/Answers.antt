use Rattle.op.proofs.writing.PartLemmas.{message_whole}
use Rattle.op.proofs.message.laws.a_message_with_room_is_whole.Goals as goal

pub returns : goal.returns
returns c = message_whole
