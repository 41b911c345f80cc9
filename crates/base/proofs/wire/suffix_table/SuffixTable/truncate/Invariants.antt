use Rattle.std.proofs.Common.{◌≡◌, ◌-◌, ◌++◌, length, take}
use Rattle.base.specs.writing.Suffixes.{offset_in, IsTable}
use Rattle.base.proofs.wire.suffix_table.SuffixTable.truncate.Given as goal

abbrev pub invariant-loop-self : goal.invariant-loop-self
invariant-loop-self l = record {
  table : IsTable (offset_in l.self-inside.index) l.self-inside.cells.items l.self-inside.first
      l.self-inside.others.items;
  front : take l.count (l.self-inside.first ++ l.self-inside.others.items) ≡ take l.count l.fn.self;
  after : l.after ≡ l.count - length l.self-inside.first;
}

abbrev pub decreases-loop-self : goal.decreases-loop-self
decreases-loop-self l = length l.self-inside.others.items
