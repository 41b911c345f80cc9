use Rattle.op.proofs.reading.MessageNames.{names_of_message}
use Rattle.op.proofs.message.laws.names_of_a_message_stand_at_their_places.Goals as goal

pub returns : goal.returns
returns c = names_of_message
