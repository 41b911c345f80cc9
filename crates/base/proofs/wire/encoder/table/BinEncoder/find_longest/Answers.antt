use Rattle.std.proofs.Common.{◌+◌, arith, sym, ◌∙◌}
use Rattle.base.specs.writing.Wire.{state_of}
use Rattle.base.proofs.writing.LongestLemmas.{reached-step, reached-found, reached-end}
use Rattle.base.proofs.wire.encoder.table.BinEncoder.find_longest.Goals as goal

pub returns-in-Some-clause-kept : goal.returns-in-Some-clause-kept
returns-in-Some-clause-kept c =
    (reached-found (state_of c.args.self.now).suffixes c.args.wire.now c.loop-kept.kept c.in-Some.offset
    c.loop-kept.invariant c.loop-kept-test.true (sym c.in-Some.is ∙ c.find.ensures.value)).0

pub returns-in-Some-clause-found : goal.returns-in-Some-clause-found
returns-in-Some-clause-found c =
    (reached-found (state_of c.args.self.now).suffixes c.args.wire.now c.loop-kept.kept c.in-Some.offset
    c.loop-kept.invariant c.loop-kept-test.true (sym c.in-Some.is ∙ c.find.ensures.value)).1

pub loop-kept-preserved : goal.loop-kept-preserved
loop-kept-preserved c =
    reached-step (state_of c.args.self.now).suffixes c.args.wire.now c.loop-kept.kept (1 + c.from.result)
    c.loop-kept.invariant c.loop-kept-test.true (omega arith) (sym c.in_default.is ∙ c.find.ensures.value)

pub returns-clause-kept : goal.returns-clause-kept
returns-clause-kept c = (reached-end (state_of c.args.self.now).suffixes c.args.wire.now c.loop-kept.kept
    c.loop-kept.invariant c.loop-kept-test.false).0

pub returns-clause-found : goal.returns-clause-found
returns-clause-found c = (reached-end (state_of c.args.self.now).suffixes c.args.wire.now c.loop-kept.kept
    c.loop-kept.invariant c.loop-kept-test.false).1
