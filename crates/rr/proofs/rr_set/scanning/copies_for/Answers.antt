use Rattle.std.proofs.Common.{sym, ◌∙◌, ap, ◌==◌, ◌<◌, arith, length, not, refl, subst, ◌≤◌}
use Rattle.rr.proofs.SetSteps.{any_found, any_passed, copy_pushed, copy_skipped, replaced_all, within_push}
use Rattle.rr.proofs.rr_set.scanning.copies_for.Goals as goal
use Rattle.rr.proofs.rr_set.scanning.copies_for.Goals.{then-eq+in_ok-push_copy, else-eq}
use Rattle.std.specs.List.{AllByRecursion, list_any}
use Rattle.std.proofs.lemmas.List.{take_all}
use Rattle.rr.specs.SetChanges.{has_data_of, renewed}

pub loop-i-preserved : goal.loop-i-preserved
loop-i-preserved c =
    let xs = c.args.records.now.items in
    let r = c.args.entry.now in
    let i = c.loop-i.i in
    let below : c.loop-i.i < length c.args.records.now.items = omega arith in
    elim c.if-eq.branch [
      | then-eq+in_ok-push_copy w ↦ (
        ap (λ v. renewed v.items xs) w.copies-is ∙ ap (λ ps. renewed ps xs) w.in_ok-push_copy.ensures
            ∙ copy_pushed r xs c.loop-i.copies.items i below c.loop-i.invariant.0 c.index.ensures
            (sym c.eq.ensures ∙ w.if-eq.true) refl,
        subst (λ ps. AllByRecursion (λ p. p.0 < length xs) ps)
            (sym (ap (λ v. v.items) w.copies-is ∙ w.in_ok-push_copy.ensures))
            (within_push (length xs) c.loop-i.copies.items (i, r) c.loop-i.invariant.1 below),
        ap (λ v. length v.items == 0) w.copies-is ∙ ap (λ ps. length ps == 0) w.in_ok-push_copy.ensures
            ∙ any_found r c.index.result.now xs c.loop-i.copies.items (i, r) i below c.index.ensures
            (sym c.eq.ensures ∙ w.if-eq.true),
      )
      | else-eq w ↦ (
        ap (λ v. renewed v.items xs) w.copies-is ∙ copy_skipped r xs c.loop-i.copies.items i below c.loop-i.invariant.0
            c.index.ensures (sym c.eq.ensures ∙ w.if-eq.false),
        subst (λ v. AllByRecursion (λ p. p.0 < length xs) v.items) (sym w.copies-is) c.loop-i.invariant.1,
        ap (λ v. length v.items == 0) w.copies-is
            ∙ any_passed r c.index.result.now xs (length c.loop-i.copies.items == 0) i below c.loop-i.invariant.2
            c.index.ensures (sym c.eq.ensures ∙ w.if-eq.false),
      )
    ]

pub loop-i-init : goal.loop-i-init
loop-i-init c = rw c.new-copies.ensures.items (refl, tt, refl)

pub returns-clause-renewed : goal.returns-clause-renewed
returns-clause-renewed c =
    let all : length c.args.records.now.items ≤ c.loop-i.i = omega arith in
    c.loop-i.invariant.0 ∙ replaced_all c.args.entry.now c.args.records.now.items c.loop-i.i all

pub returns-clause-within : goal.returns-clause-within
returns-clause-within c = c.loop-i.invariant.1

pub returns-clause-any : goal.returns-clause-any
returns-clause-any c =
    let all : length c.args.records.now.items ≤ c.loop-i.i = omega arith in
    c.loop-i.invariant.2 ∙ ap (λ xs. not (list_any (has_data_of c.args.entry.now) xs))
    (take_all c.loop-i.i c.args.records.now.items all)
