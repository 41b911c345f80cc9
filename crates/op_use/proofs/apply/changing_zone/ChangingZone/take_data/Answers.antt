use Rattle.op_use.proofs.ChangingSteps.{held_as, kept_map, map_out, none_left, set_left, set_out}
use Rattle.op_use.proofs.WholeSteps.{map_copy}
use Rattle.op_use.proofs.apply.changing_zone.ChangingZone.take_data.Goals as goal
use Rattle.op_use.specs.Applying.{records_in}
use Rattle.op_use.specs.MapUpdates.{IsSetTo}
use Rattle.rr.specs.Record.{record_key}
use Rattle.rr.specs.SetChanges.{without}
use Rattle.std.proofs.Common.{ap, length, subst, sym, ◌∙◌}
use Rattle.std.proofs.lemmas.List.{nil_from_length}

pub invariant_of-self-in_err-set : goal.invariant_of-self-in_err-set
invariant_of-self-in_err-set c =
    let i = c.self.inside in
    map_out i.class c.in_ok-key.key i.sets c.remove.new.self c.remove.ensures.updates.0 c.self.invariant

pub returns-in_default : goal.returns-in_default
returns-in_default c =
    let i = c.self.inside in
    held_as c.in_ok-key.key (record_key c.args.entry.now) (without c.args.entry.now)
    (record { origin = i.origin.now; class = i.class; sets = i.sets }) c.args.self.now c.remove.new.self
    c.in_ok-key.ensures c.self.view_is (subst (λ xs. IsSetTo i.class c.in_ok-key.key xs i.sets c.remove.new.self)
    (ap (λ o. without c.args.entry.now (records_in o)) c.in_default.ensures.value)
    (set_out i.class c.in_ok-key.key i.sets c.remove.new.self c.remove.ensures.updates.0))

pub take_data-requires : goal.take_data-requires
take_data-requires c = (c.self.invariant c.in_ok-key.key c.in-Some.set (sym c.in-Some.ensures.value)).distinct

pub invariant_of-self : goal.invariant_of-self
invariant_of-self c =
    let i = c.self.inside in
    map_out i.class c.in_ok-key.key i.sets c.remove.new.self c.remove.ensures.updates.0 c.self.invariant

pub returns-then-records_count-eq0 : goal.returns-then-records_count-eq0
returns-then-records_count-eq0 c =
    let i = c.self.inside in
    held_as c.in_ok-key.key (record_key c.args.entry.now) (without c.args.entry.now)
    (record { origin = i.origin.now; class = i.class; sets = i.sets }) c.args.self.now c.remove.new.self
    c.in_ok-key.ensures c.self.view_is
    (none_left i.class c.in_ok-key.key i.sets c.remove.new.self c.args.entry.now c.in-Some.set c.in_ok-set.set
    (sym c.in-Some.ensures.value) c.in_ok-set.ensures
    (nil_from_length c.in_ok-set.set.records (sym c.records_count.ensures ∙ c.if-records_count-eq0.true))
    c.remove.ensures.updates.0)

pub invariant_of-self-then-records_count-eq0 : goal.invariant_of-self-then-records_count-eq0
invariant_of-self-then-records_count-eq0 c =
    let i = c.self.inside in
    map_out i.class c.in_ok-key.key i.sets c.remove.new.self c.remove.ensures.updates.0 c.self.invariant

pub invariant_of-self-in_err-insert : goal.invariant_of-self-in_err-insert
invariant_of-self-in_err-insert c =
    let i = c.self.inside in
    map_copy i.origin.now i.class c.remove.new.self c.insert.new.self c.insert.new.self c.in_err-insert.ensures.err
    (map_out i.class c.in_ok-key.key i.sets c.remove.new.self c.remove.ensures.updates.0 c.self.invariant)

pub invariant_of-self-2 : goal.invariant_of-self-2
invariant_of-self-2 c =
    let i = c.self.inside in
    kept_map i.class c.in_ok-key.key _ i.sets c.insert.new.self
    (set_left i.class c.in_ok-key.key i.sets c.insert.new.self c.remove.new.self c.in_ok-set.set
    c.remove.ensures.updates.0 c.in_ok-insert.ensures.updates.0 c.args.entry.now c.in-Some.set
    (c.self.invariant c.in_ok-key.key c.in-Some.set (sym c.in-Some.ensures.value)) (sym c.in-Some.ensures.value)
    c.in_ok-set.ensures (λ none. c.if-records_count-eq0.false (c.records_count.ensures ∙ ap length none)))
    c.self.invariant

pub returns : goal.returns
returns c =
    let i = c.self.inside in
    held_as c.in_ok-key.key (record_key c.args.entry.now) (without c.args.entry.now)
    (record { origin = i.origin.now; class = i.class; sets = i.sets }) c.args.self.now c.insert.new.self
    c.in_ok-key.ensures c.self.view_is
    (set_left i.class c.in_ok-key.key i.sets c.insert.new.self c.remove.new.self c.in_ok-set.set
    c.remove.ensures.updates.0 c.in_ok-insert.ensures.updates.0 c.args.entry.now c.in-Some.set
    (c.self.invariant c.in_ok-key.key c.in-Some.set (sym c.in-Some.ensures.value)) (sym c.in-Some.ensures.value)
    c.in_ok-set.ensures (λ none. c.if-records_count-eq0.false (c.records_count.ensures ∙ ap length none)))
