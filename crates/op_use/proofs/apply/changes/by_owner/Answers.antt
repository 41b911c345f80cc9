use Rattle.base.specs.names.NameOrder.{folded}
use Rattle.base.specs.names.NameOrderLaws.{cmp_by-total}
use Rattle.base_data.specs.declared.rdata.RData.{RData}
use Rattle.op_use.proofs.OwnerParts.{own_updates}
use Rattle.op_use.proofs.OwnerRuns.{is_below, same_own}
use Rattle.op_use.proofs.apply.changes.by_owner.Goals as goal
use Rattle.rr.specs.declared.record.Record.{Record}
use Rattle.std.proofs.Common.{Bor, ap, ◌∙◌}
use Rattle.std.proofs.lemmas.List.Sorted.{answers_always, ranks_by}
use Rattle.std.proofs.lemmas.List.{take_all}
use Rattle.std.specs.Ordering.{is_lt}

pub returns-clause-sorted : goal.returns-clause-sorted
returns-clause-sorted c = c.in_ok-sort_by.ensures.sorted is_below
    (ranks_by (cmp_by-total folded) (λ (r : Bor (Record RData)). r.now.name))
    (answers_always _ _ _ (λ f a r f' k. ap is_lt k.met))

pub returns-clause-same : goal.returns-clause-same
returns-clause-same c = λ q.
    same_own c.loop-entry.sorted.items c.sort_by.new.self.items
    (c.in_ok-sort_by.ensures.stable is_below
    (ranks_by (cmp_by-total folded) (λ (r : Bor (Record RData)). r.now.name))
    (answers_always _ _ _ (λ f a r f' k. ap is_lt k.met))) c.in_ok-sort_by.ensures.permutation q
    ∙ ap (own_updates q) (c.loop-entry.invariant
    ∙ take_all c.loop-entry.entry-index c.args.entries.now c.loop-entry-test.false)
