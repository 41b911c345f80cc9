use Rattle.rr.proofs.SetLaws.{false_keeps, true_holds}
use Rattle.rr.proofs.rr_set.laws.inserts_answer_for_the_set.Goals as goal

pub returns : goal.returns
returns c = record { unchanged = false_keeps; held = true_holds }
