use Rattle.std.proofs.Common.{◌≡◌, drop}
use Rattle.commands.specs.Words.{as_bytes}
use Rattle.commands.specs.ZoneCommand.{are_texts}
use Rattle.commands.proofs.command.are_texts.Given as goal

abbrev pub invariant-loop-word : goal.invariant-loop-word
invariant-loop-word l = are_texts (as_bytes (drop l.word-index l.words)) ≡ are_texts (as_bytes l.words)
