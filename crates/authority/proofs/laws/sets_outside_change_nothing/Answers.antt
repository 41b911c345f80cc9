use Rattle.authority.proofs.InsideLemmas.{answer_inside, found_inside, reply_inside}
use Rattle.authority.proofs.laws.sets_outside_change_nothing.Goals as goal

pub returns : goal.returns
returns c = record { found = found_inside; answered = answer_inside; replied = reply_inside }
