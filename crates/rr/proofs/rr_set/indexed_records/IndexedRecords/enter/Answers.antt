use Rattle.base_data.specs.declared.rdata.RData.{RData}
use Rattle.rr.proofs.IndexLemmas.{current_entered}
use Rattle.rr.proofs.rr_set.indexed_records.IndexedRecords.enter.Goals as goal
use Rattle.rr.specs.DataIndex.{IsCurrent, IsPlaceFor}
use Rattle.rr.specs.SetChanges.{entered}
use Rattle.rr.specs.declared.record.Record.{Record}
use Rattle.std.proofs.Common.{List, ap, length, subst, sym, ◌∙◌}

pub invariant_of-self : goal.invariant_of-self
invariant_of-self c = subst (IsCurrent c.make_room.new.index) (sym c.make_room.ensures.same) c.make_room.ensures.index

pub returns-in_default-clause-ok : goal.returns-in_default-clause-ok
returns-in_default-clause-ok c = c.in_ok-enter.ensures.ok
    ∙ ap (entered c.args.entry) (c.make_room.ensures.same ∙ c.self.view_is)

pub invariant_of-self-in_default : goal.invariant_of-self-in_default
invariant_of-self-in_default c = (rw c.in_default.is at c.in_ok-place.ensures.missing) c.enter.new.records.items

pub invariant_of-self-in_err-enter : goal.invariant_of-self-in_err-enter
invariant_of-self-in_err-enter c = (rw c.in_default.is at c.in_ok-place.ensures.missing) c.enter.new.records.items

pub enter_at-requires-clause-place : goal.enter_at-requires-clause-place
enter_at-requires-clause-place c = subst (λ (rs : List (Record RData)). IsPlaceFor c.args.entry rs c.in-Some.place)
    (sym c.make_room.ensures.same) (rw c.in-Some.is at c.in_ok-place.ensures.place)

pub enter_at-requires-clause-room : goal.enter_at-requires-clause-room
enter_at-requires-clause-room c = λ last. (rw c.in-Some.is at c.in_ok-place.ensures.room)
    (last ∙ ap length c.make_room.ensures.same)

pub invariant_of-self-2 : goal.invariant_of-self-2
invariant_of-self-2 c =
    let index = c.make_room.new.index in
    let same = c.make_room.ensures.same in
    current_entered index c.args.entry c.self.inside.records.items c.enter_at.new.records.items c.enter_at.result
    (c.enter_at.ensures.value ∙ ap (entered c.args.entry) same)
    c.make_room.ensures.index (rw c.in-Some.is at c.in_ok-place.ensures.joined)

pub returns-clause-ok : goal.returns-clause-ok
returns-clause-ok c = c.enter_at.ensures.value ∙ ap (entered c.args.entry) (c.make_room.ensures.same ∙ c.self.view_is)

pub returns-clause-place : goal.returns-clause-place
returns-clause-place c = c.enter_at.ensures.place
