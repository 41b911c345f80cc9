use Rattle.op_use.proofs.apply.changing_zone.ChangingZone.into_sets.Goals as goal
use Rattle.op_use.specs.Applying.{IsZoneMap}
use Rattle.op_use.specs.HeldZone.{HeldZone}
use Rattle.std.proofs.Common.{subst}

pub returns-clause-fits : goal.returns-clause-fits
returns-clause-fits c = subst (λ (z : HeldZone). IsZoneMap z.class c.self.inside.sets) c.self.view_is c.self.invariant
