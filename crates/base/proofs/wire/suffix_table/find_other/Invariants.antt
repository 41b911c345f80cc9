use Rattle.std.proofs.Common.{◌≡◌, drop}
use Rattle.base.specs.names.Labels.{labels_of}
use Rattle.base.specs.writing.Suffixes.{cells_of, found_at, offset_in}
use Rattle.base.proofs.wire.suffix_table.find_other.Given as goal

abbrev pub invariant-loop-cell : goal.invariant-loop-cell
invariant-loop-cell l = found_at l.others (offset_in l.index l.wire) (labels_of l.wire) (cells_of l.cells l.wire)
    ≡ found_at l.others (offset_in l.index l.wire) (labels_of l.wire) (drop l.cell-index (cells_of l.cells l.wire))
