use Rattle.op_use.proofs.apply.changing_zone.ChangingZone.count.Goals as goal
use Rattle.op_use.specs.Applying.{records_at, records_in}
use Rattle.op_use.specs.HeldZone.{HeldZone}
use Rattle.std.proofs.Common.{ap, length, ◌∙◌}

pub returns-in-Some : goal.returns-in-Some
returns-in-Some c = c.records_count.ensures ∙ ap (λ o. length (records_in o)) c.in-Some.ensures.value
    ∙ ap (λ (z : HeldZone). length (records_at z.sets c.args.key.now)) c.self.view_is

pub returns-in-None : goal.returns-in-None
returns-in-None c = ap (λ o. length (records_in o)) c.in-None.ensures.value
    ∙ ap (λ (z : HeldZone). length (records_at z.sets c.args.key.now)) c.self.view_is
