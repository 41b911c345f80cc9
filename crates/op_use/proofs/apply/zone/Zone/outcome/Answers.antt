use Rattle.op_use.proofs.OutcomeSteps.{gathered_first, gathered_last, step_ahead, step_names, step_new, step_next}
use Rattle.op_use.proofs.OutcomeSteps.{step_smaller}
use Rattle.op_use.proofs.OwnerRuns.{ascending}
use Rattle.op_use.proofs.WalkSteps.{IsAhead, ahead_at_first, begins}
use Rattle.op_use.proofs.apply.zone.Zone.outcome.Goals as goal
use Rattle.op_use.specs.Applying.{IsZoneMap}
use Rattle.op_use.specs.HeldZone.{HeldZone}
use Rattle.op_use.specs.MapUpdates.{has_key}
use Rattle.op_use.specs.Outcome.{found}
use Rattle.std.proofs.Common.{arith, drop, length, subst, ◌<◌, ◌≤◌}
use Rattle.std.proofs.lemmas.List.{drop_all}

pub loop-done-init : goal.loop-done-init
loop-done-init c = (
  omega arith,
  ascending c.in_ok-sorted.sorted.items c.in_ok-sorted.ensures.sorted,
  gathered_first c.args.entries.now c.args.self.now c.in_ok-sorted.sorted.items
      (record { added = c.new.result; replaced = c.new-2.result; gone = c.new-3.result }) c.in_ok-sorted.ensures.same
      (λ q i. record {
        added = found (c.new.ensures.items i) q;
        replaced = found (c.new-2.ensures.items i) q;
        is_gone = has_key q (c.new-3.ensures.items i);
      }),
  subst (λ (y : HeldZone). IsAhead y.sets c.in_ok-sorted.sorted.items c.range-walk.result) c.self.view_is
      (ahead_at_first c.self.inside.sets.now c.in_ok-sorted.sorted.items c.range-walk.result
      (λ k. begins c.self.inside.sets.now k c.range-walk.result (c.range-walk.ensures.between tt)
      c.range-walk.ensures.ordered)),
)

pub update_owner-requires-clause-walk : goal.update_owner-requires-clause-walk
update_owner-requires-clause-walk c =
    let here : c.loop-done.done < length c.in_ok-sorted.sorted.items = omega (arith, c.in_ok-sorted.sorted.ok.0) in
    step_ahead c.args.entries.now c.args.self.now c.in_ok-sorted.sorted.items c.deref.result.now c.loop-done.done
    c.count_of_owner-count.result c.index-rest-0.result c.loop-done.outcome c.deref.ensures.value here
    c.loop-done.invariant.1 c.loop-done.invariant.2 c.loop-done.walk c.loop-done.invariant.3

pub update_owner-requires-clause-names : goal.update_owner-requires-clause-names
update_owner-requires-clause-names c =
    let here : c.loop-done.done < length c.in_ok-sorted.sorted.items = omega (arith, c.in_ok-sorted.sorted.ok.0) in
    step_names c.args.entries.now c.args.self.now c.in_ok-sorted.sorted.items c.deref.result.now c.loop-done.done
    c.count_of_owner-count.result c.index-rest-0.result c.loop-done.outcome c.deref.ensures.value here
    c.loop-done.invariant.1 c.loop-done.invariant.2 c.count_of_owner-count.ensures

pub update_owner-requires-clause-new : goal.update_owner-requires-clause-new
update_owner-requires-clause-new c =
    let here : c.loop-done.done < length c.in_ok-sorted.sorted.items = omega (arith, c.in_ok-sorted.sorted.ok.0) in
    step_new c.args.entries.now c.args.self.now c.in_ok-sorted.sorted.items c.deref.result.now c.loop-done.done
    c.count_of_owner-count.result c.index-rest-0.result c.loop-done.outcome c.deref.ensures.value here
    c.loop-done.invariant.1 c.loop-done.invariant.2 c.count_of_owner-count.ensures

pub loop-done-preserved : goal.loop-done-preserved
loop-done-preserved c =
    let here : c.loop-done.done < length c.in_ok-sorted.sorted.items = omega (arith, c.in_ok-sorted.sorted.ok.0) in
    step_next c.args.entries.now c.args.self.now c.in_ok-sorted.sorted.items c.deref.result.now c.loop-done.done
    c.count_of_owner-count.result c.index-rest-0.result c.loop-done.outcome c.deref.ensures.value here
    c.loop-done.invariant.1 c.loop-done.invariant.2 c.count_of_owner-count.ensures c.update_owner.new.outcome
    c.update_owner.new.walk c.in_ok-update_owner.ensures.updates c.in_ok-update_owner.ensures.walk

pub loop-done-smaller : goal.loop-done-smaller
loop-done-smaller c =
    let here : c.loop-done.done < length c.in_ok-sorted.sorted.items = omega (arith, c.in_ok-sorted.sorted.ok.0) in
    step_smaller c.args.entries.now c.args.self.now c.in_ok-sorted.sorted.items c.deref.result.now c.loop-done.done
    c.count_of_owner-count.result c.index-rest-0.result c.loop-done.outcome c.deref.ensures.value here
    c.loop-done.invariant.1 c.loop-done.invariant.2 c.count_of_owner-count.ensures

pub returns : goal.returns
returns c =
    let done : length c.in_ok-sorted.sorted.items ≤ c.loop-done.done = omega (arith, c.in_ok-sorted.sorted.ok.0) in
    gathered_last c.args.entries.now c.args.self.now (drop c.loop-done.done c.in_ok-sorted.sorted.items)
    c.loop-done.outcome (subst (λ (y : HeldZone). IsZoneMap y.class y.sets) c.self.view_is c.self.invariant)
    (drop_all c.loop-done.done c.in_ok-sorted.sorted.items done) c.loop-done.invariant.2
