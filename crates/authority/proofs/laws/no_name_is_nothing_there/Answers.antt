use Rattle.authority.proofs.CutLemmas.{no_cut_above, no_wildcard, not_there}
use Rattle.authority.proofs.laws.no_name_is_nothing_there.Goals as goal

pub returns : goal.returns
returns c = record { nothing = not_there; no_wildcard = no_wildcard; no_cut = no_cut_above }
