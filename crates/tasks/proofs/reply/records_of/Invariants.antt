-- The records so far and those of the sets that are left are those of all sets, of aliases and of others.
use Rattle.std.proofs.Common.{◌++◌, ◌≡◌}
use Rattle.std.specs.List.{flat_map}
use Rattle.tasks.specs.Reply.{alias_records, other_records}
use Rattle.tasks.proofs.reply.records_of.Given as goal

abbrev pub invariant-loop-key : goal.invariant-loop-key
invariant-loop-key l =
    (l.aliases.items ++ flat_map alias_records l._key-iterator ≡ flat_map alias_records l.fn.sets.entries)
    × (l.others.items ++ flat_map other_records l._key-iterator ≡ flat_map other_records l.fn.sets.entries)
