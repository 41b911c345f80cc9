use Rattle.std.proofs.Common.{◌≡◌, ◌<◌, ◌∙◌, ap, arith, length, subst, sym, ℕ}
use Rattle.base_data.specs.declared.rdata.RData.{RData}
use Rattle.rr.specs.declared.record.Record.{Record}
use Rattle.std.specs.List.{AllByRecursion}
use Rattle.rr.proofs.SetSteps.{len_step, renew_end}
use Rattle.std.proofs.lemmas.List.{length-set}
use Rattle.std.specs.Vec.Iter.{into_iter_items}
use Rattle.rr.specs.SetChanges.{renewed}
use Rattle.rr.proofs.rr_set.scanning.renew.Goals as goal

pub loop-place-init : goal.loop-place-init
loop-place-init c =
    let gives = c.into_iter-place-iterator.ensures.into_iter_gives in
    let len : c.args.copies.len ≡ length c.args.copies.items = omega (arith, c.args.copies.ok) in (
      ap (λ ps. renewed ps c.args.records.now.items) gives.0,
      subst (λ ps. AllByRecursion (λ p. p.0 < length c.args.records.now.items) ps) (sym gives.0) c.requires,
      gives.1 ∙ len ∙ ap length (sym gives.0),
    )

pub set_at-requires : goal.set_at-requires
set_at-requires c = (subst (AllByRecursion (λ q. q.0 < length c.loop-place.records.items)) c.in-Some.ensures.steps.0
    c.loop-place.invariant.1).0

pub loop-place-preserved : goal.loop-place-preserved
loop-place-preserved c =
    let xs = c.loop-place.records.items in
    let rest = into_iter_items c.next.new.self in
    let first = c.in-Some.ensures.steps in
    let loop = c.loop-place.invariant in (
      ap (renewed rest) c.set_at.ensures ∙ ap (λ ps. renewed ps xs) (sym first.0) ∙ loop.0,
      subst (λ n. AllByRecursion (λ (q : ℕ × Record RData). q.0 < n) rest)
          (sym (ap length c.set_at.ensures ∙ length-set xs c.in-Some.place c.in-Some.copy))
          (subst (AllByRecursion (λ q. q.0 < length xs)) first.0 loop.1).1,
      len_step _ _ _ _ (c.in-Some.place, c.in-Some.copy) first.0 first.1 loop.2,
    )

pub returns : goal.returns
returns c = renew_end _ _ _ _ c.loop-place.invariant.0 c.in-None.ensures.steps.0 c.loop-place.invariant.2
