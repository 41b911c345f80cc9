use Rattle.op_use.proofs.FollowSteps.{records_follow}
use Rattle.op_use.proofs.apply.laws.records_follow_the_zone.Goals as goal

pub returns : goal.returns
returns c = records_follow
