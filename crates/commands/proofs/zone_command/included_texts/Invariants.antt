use Rattle.std.proofs.Common.{◌≡◌, List, take, ℕ}
use Rattle.txt.specs.Parser.{texts_in}
use Rattle.commands.specs.Words.{as_bytes}
use Rattle.commands.specs.ZoneCommand.{text_named}
use Rattle.commands.proofs.zone_command.included_texts.Given as goal

abbrev pub invariant-loop-word : goal.invariant-loop-word
invariant-loop-word l = (name : List ℕ) → texts_in l.includes name ≡ text_named
    (as_bytes (take l.word-index l.words)) name
