use Rattle.authority.proofs.SetsFromLemmas.{between_is}
use Rattle.authority.proofs.laws.transfers_give_the_zone.Goals as goal

pub returns : goal.returns
returns c = between_is
