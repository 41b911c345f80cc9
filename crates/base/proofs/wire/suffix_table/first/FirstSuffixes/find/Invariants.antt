use Rattle.std.proofs.Common.{◌≡◌, drop, take}
use Rattle.std.specs.Prelude.{map}
use Rattle.base.specs.names.Labels.{labels_of}
use Rattle.base.specs.writing.Suffixes.{stored_at}
use Rattle.base.specs.writing.Written.{found_in}
use Rattle.base.proofs.wire.suffix_table.first.FirstSuffixes.find.Given as goal

abbrev pub invariant-loop-entry : goal.invariant-loop-entry
invariant-loop-entry l = found_in l.self (labels_of l.wire)
    ≡ found_in (map (stored_at (take l.self-inside.used l.self-inside.bytes))
    (drop l.entry-index (take l.self-inside.count l.self-inside.all))) (labels_of l.wire)
