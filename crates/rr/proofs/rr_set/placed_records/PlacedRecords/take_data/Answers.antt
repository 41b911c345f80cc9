use Rattle.rr.proofs.PlacedLemmas.{Places, count_taken, only_one, placed_taken, without_here}
use Rattle.rr.proofs.SetSteps.{without_none}
use Rattle.rr.proofs.rr_set.placed_records.PlacedRecords.take_data.Goals as goal
use Rattle.rr.specs.PlacedRecords.{IsPlaced, present}
use Rattle.rr.specs.SetChanges.{has_data_of, without}
use Rattle.std.proofs.Common.{ap, arith, length, rules, subst, sym, ◌∙◌, ◌≡◌}
use Rattle.std.proofs.lemmas.Option.{slice_get_within}
use Rattle.std.specs.List.{list_any}
use Rattle.std.specs.Prelude.{Some}

pub returns-in_default-clause-went : goal.returns-in_default-clause-went
returns-in_default-clause-went c =
    sym c.in_default.ensures ∙ ap (list_any (has_data_of c.args.entry.now)) c.self.view_is

pub returns-in_default-clause-ok : goal.returns-in_default-clause-ok
returns-in_default-clause-ok c =
    subst (λ ys. ys ≡ without c.args.entry.now ys) c.self.view_is
    (sym (without_none c.args.entry.now (present c.self.inside.places.items) c.in_default.ensures))

pub put_at-requires : goal.put_at-requires
put_at-requires c = slice_get_within c.self.inside.places.items c.in-Some.place (Some c.in-Some.ensures.known)
    c.in-Some.ensures.here

pub overflow_sub-self : goal.overflow_sub-self
overflow_sub-self c = omega (
  arith,
  c.self.invariant.1,
  count_taken c.self.inside.places.items c.in-Some.place c.args.entry.now c.in-Some.ensures,
)

pub invariant_of-self : goal.invariant_of-self
invariant_of-self c =
    let ps = c.self.inside.places.items in
    let index = c.take_out.new.index in
    let indexed = c.take_out.ensures ps c.in-Some.place c.args.entry.now c.self.invariant.0.indexed c.in-Some.ensures
    (search rules) in (
      subst (IsPlaced index) (sym c.put_at.ensures) (placed_taken index ps c.in-Some.place c.args.entry.now
          c.self.invariant.0.distinct c.in-Some.ensures indexed),
      omega (
        arith,
        c.self.invariant.1,
        count_taken c.self.inside.places.items c.in-Some.place c.args.entry.now c.in-Some.ensures,
        ap (λ (qs : Places). length (present qs)) c.put_at.ensures,
      ),
    )

pub returns-clause-went : goal.returns-clause-went
returns-clause-went c =
    sym (only_one c.self.inside.places.items c.in-Some.place c.args.entry.now c.in-Some.ensures)
    ∙ ap (list_any (has_data_of c.args.entry.now)) c.self.view_is

pub returns-clause-ok : goal.returns-clause-ok
returns-clause-ok c =
    ap present c.put_at.ensures ∙ without_here c.self.inside.places.items c.in-Some.place c.args.entry.now
    c.in-Some.ensures c.self.invariant.0.distinct ∙ ap (without c.args.entry.now) c.self.view_is
