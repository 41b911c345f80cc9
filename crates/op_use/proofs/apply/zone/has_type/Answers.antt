use Rattle.base.specs.names.NameOrder.{same_lower}
use Rattle.op_use.proofs.OwnerKeys.{any_here, any_next, any_start}
use Rattle.op_use.proofs.TypeSteps.{cname_is}
use Rattle.op_use.proofs.apply.zone.has_type.Goals as goal
use Rattle.op_use.proofs.apply.zone.has_type.Goals.{else-is_beside-via-else-is_beside}
use Rattle.op_use.proofs.apply.zone.has_type.Goals.{else-is_beside-via-then-is_beside+else-eq}
use Rattle.op_use.specs.Server.{is_cname}
use Rattle.std.proofs.lemmas.Bool.{not-false}
use Rattle.std.proofs.Common.{ap, false, not, sym, true, ◌&&◌, ◌≡◌, ◌∙◌}

pub loop-key-init : goal.loop-key-init
loop-key-init g c = (
  any_start c.args.owner.now (λ k. not (c.args.is_beside && is_cname k.record_type)) c.in_ok-least.least _
      c.args.sets.now.entries c.in_ok-least.ensures c.range-key-items.ensures.ordered
      (c.into_iter-key-iterator.ensures.into_iter_gives ∙ c.range-key-items.ensures.between tt),
  tt,
  tt,
)

pub loop-key-preserved : goal.loop-key-preserved
loop-key-preserved g c =
    let fails : not (c.args.is_beside && is_cname c.in-Some.key.now.record_type) ≡ false
    = λ i. not (c.if-is_beside.true i && (cname_is c.in-Some.key.now.record_type ∙ sym c.eq.ensures ∙ c.if-eq.true) i)
    in (
      any_next c.args.owner.now (λ k. not (c.args.is_beside && is_cname k.record_type)) c.loop-key.key-iterator
          c.next.new.self _ _ c.in-Some.ensures.steps
          (ap (λ k. same_lower k.name c.in-Some.key.now.name) (sym c.in_ok-least.ensures)
          ∙ not-false _ (sym c.ne.ensures ∙ c.if-ne.false)) fails c.loop-key.invariant.0,
      tt,
      tt,
    )

pub returns-in-loop-key : goal.returns-in-loop-key
returns-in-loop-key g c =
    let counts : not (c.args.is_beside && is_cname c.in-Some.key.now.record_type) ≡ true =
    elim c.else-is_beside.branch [
      | else-is_beside-via-then-is_beside+else-eq w ↦ λ i. not
          (w.if-is_beside.true i && (cname_is c.in-Some.key.now.record_type ∙ sym w.eq.ensures ∙ w.if-eq.false) i)
      | else-is_beside-via-else-is_beside w ↦ λ i. not
          (w.if-is_beside.false i && is_cname c.in-Some.key.now.record_type)
    ] in
    any_here c.args.owner.now (λ k. not (c.args.is_beside && is_cname k.record_type)) c.loop-key.key-iterator
    c.next.new.self _ _ c.in-Some.ensures.steps
    (ap (λ k. same_lower k.name c.in-Some.key.now.name) (sym c.in_ok-least.ensures)
    ∙ not-false _ (sym c.ne.ensures ∙ c.if-ne.false)) counts c.loop-key.invariant.0
