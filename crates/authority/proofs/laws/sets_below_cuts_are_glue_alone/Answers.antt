use Rattle.authority.proofs.HiddenLemmas.{lookup_same, others_same, replies_same, whole_same}
use Rattle.authority.proofs.laws.sets_below_cuts_are_glue_alone.Goals as goal

pub returns : goal.returns
returns c = record { found = lookup_same; others = others_same; whole = whole_same; replied = replies_same }
