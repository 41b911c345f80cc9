use Rattle.authority.proofs.SentLemmas.{never_refused}
use Rattle.authority.proofs.laws.responses_have_room.Goals as goal

pub returns : goal.returns
returns c = never_refused
