use Rattle.op_use.proofs.ChangingSteps.{distinct_there, held_as, kept_map, map_out, set_renewed}
use Rattle.op_use.proofs.WholeSteps.{map_copy}
use Rattle.op_use.proofs.apply.changing_zone.ChangingZone.add_record.Goals as goal
use Rattle.op_use.specs.CurrentSets.{renewed_set}
use Rattle.rr.specs.Record.{record_key}
use Rattle.rr.specs.SetChanges.{joined}
use Rattle.std.proofs.Common.{ap, ◌∙◌}

pub renewed-requires : goal.renewed-requires
renewed-requires c = distinct_there c.self.inside.class c.args.key c.self.inside.sets c.remove.result c.self.invariant
    c.remove.ensures.value

pub invariant_of-self : goal.invariant_of-self
invariant_of-self c =
    let i = c.self.inside in
    map_out i.class c.args.key i.sets c.remove.new.self c.remove.ensures.updates.0 c.self.invariant

pub invariant_of-self-in_err-insert : goal.invariant_of-self-in_err-insert
invariant_of-self-in_err-insert c =
    let i = c.self.inside in
    map_copy i.origin.now i.class c.remove.new.self c.insert.new.self c.insert.new.self c.in_err-insert.ensures.err
    (map_out i.class c.args.key i.sets c.remove.new.self c.remove.ensures.updates.0 c.self.invariant)

pub invariant_of-self-2 : goal.invariant_of-self-2
invariant_of-self-2 c =
    let i = c.self.inside in
    kept_map i.class c.args.key _ i.sets c.insert.new.self
    (set_renewed i.class c.args.key i.sets c.insert.new.self c.remove.new.self c.in_ok-set.set
    c.remove.ensures.updates.0 c.in_ok-insert.ensures.updates.0 c.args.entry.now c.requires c.self.invariant
    (c.in_ok-set.ensures ∙ ap (renewed_set i.class c.args.entry.now) c.remove.ensures.value)) c.self.invariant

pub returns : goal.returns
returns c =
    let i = c.self.inside in
    held_as c.args.key (record_key c.args.entry.now) (joined c.args.entry.now)
    (record { origin = i.origin.now; class = i.class; sets = i.sets }) c.args.self.now c.insert.new.self c.requires
    c.self.view_is
    (set_renewed i.class c.args.key i.sets c.insert.new.self c.remove.new.self c.in_ok-set.set
    c.remove.ensures.updates.0 c.in_ok-insert.ensures.updates.0 c.args.entry.now c.requires c.self.invariant
    (c.in_ok-set.ensures ∙ ap (renewed_set i.class c.args.entry.now) c.remove.ensures.value))
