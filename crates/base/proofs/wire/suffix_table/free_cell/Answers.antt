use Rattle.std.proofs.Common.{◌∙◌, ◌+◌, refl, ap, arith, get_or, drop}
use Rattle.std.proofs.lemmas.List.{drop_all, drop_more}
use Rattle.base.specs.writing.Suffixes.{taken}
use Rattle.base.proofs.writing.CellLemmas.{taken_free, taken_more}
use Rattle.base.proofs.wire.suffix_table.free_cell.Goals as goal

pub loop-place-init : goal.loop-place-init
loop-place-init c = record { at = refl; passed = omega arith }

pub returns-then-place-eq0 : goal.returns-then-place-eq0
returns-then-place-eq0 c =
    let cells = c.args.cells.now in
    let i = c.loop-place.place-index in
    let free = ap taken (drop_more cells i 0 c.loop-place-test.true)
    ∙ taken_free (get_or cells i 0) (drop (i + 1) cells) c.if-place-eq0.true in (
      omega (arith, c.loop-place.invariant.at, c.loop-place.invariant.passed, free),
      omega (arith, c.loop-place.invariant.at, c.loop-place-test.true),
    )

pub loop-place-preserved : goal.loop-place-preserved
loop-place-preserved c =
    let cells = c.args.cells.now in
    let i = c.loop-place.place-index in
    let more = ap taken (drop_more cells i 0 c.loop-place-test.true)
    ∙ taken_more (get_or cells i 0) (drop (i + 1) cells) (omega (arith, c.if-place-eq0.false)) in
    record {
      at = omega (arith, c.loop-place.invariant.at);
      passed = omega (arith, c.loop-place.invariant.passed, more);
    }

pub returns : goal.returns
returns c =
    let cells = c.args.cells.now in
    let i = c.loop-place.place-index in
    let end = ap taken (drop_all i cells (omega (arith, c.loop-place-test.false))) in
    omega (arith, c.loop-place.invariant.passed, end, c.loop-place-test.false, c.loop-place.auto)
