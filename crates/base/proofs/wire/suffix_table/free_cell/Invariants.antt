use Rattle.std.proofs.Common.{◌≡◌, ◌+◌, drop}
use Rattle.base.specs.writing.Suffixes.{taken}
use Rattle.base.proofs.wire.suffix_table.free_cell.Given as goal

abbrev pub invariant-loop-place : goal.invariant-loop-place
invariant-loop-place l = record {
  at : l.way ≡ l.place-index;
  passed : taken l.cells ≡ l.place-index + taken (drop l.place-index l.cells);
}
