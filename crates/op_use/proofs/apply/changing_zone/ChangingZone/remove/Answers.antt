use Rattle.op_use.proofs.ChangingSteps.{held_as, map_out, set_out}
use Rattle.op_use.proofs.apply.changing_zone.ChangingZone.remove.Goals as goal
use Rattle.std.proofs.Common.{[], refl}

pub invariant_of-self : goal.invariant_of-self
invariant_of-self c =
    let i = c.self.inside in
    map_out i.class c.args.key.now i.sets c.remove.new.self c.remove.ensures.updates.0 c.self.invariant

pub returns : goal.returns
returns c =
    let i = c.self.inside in
    held_as c.args.key.now c.args.key.now (λ xs. [])
    (record { origin = i.origin.now; class = i.class; sets = i.sets }) c.args.self.now c.remove.new.self refl
    c.self.view_is (set_out i.class c.args.key.now i.sets c.remove.new.self c.remove.ensures.updates.0)
