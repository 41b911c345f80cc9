use Rattle.std.proofs.Common.{◌∙◌, sym, arith}
use Rattle.base.proofs.names.CompareLemmas.{drop_one_more, drop_to_none}
use Rattle.base.proofs.name.compare.past_labels.Goals as goal

pub returns-in_default-clause-labels : goal.returns-in_default-clause-labels
returns-in_default-clause-labels c =
    let none = c.in_default.ensures.labels in
    none ∙ sym (drop_to_none _ c.loop.counter c.args.count (omega arith) (sym c.loop.invariant.0 ∙ none))

pub loop-preserved : goal.loop-preserved
loop-preserved c =
    let first = c.in-Some.ensures in
    (drop_one_more _ c.loop.counter _ _ _ c.loop.invariant.0 first.labels, first.others)
