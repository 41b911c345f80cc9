use Rattle.authority.proofs.CutLemmas.{cut_below, cut_servers, referred}
use Rattle.authority.proofs.laws.cuts_are_referred.Goals as goal

pub returns : goal.returns
returns c = record { below = cut_below; servers = cut_servers; referred = referred }
