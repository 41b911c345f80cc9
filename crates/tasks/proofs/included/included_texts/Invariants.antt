use Rattle.std.proofs.Common.{◌≡◌, drop}
use Rattle.txt.specs.Parser.{texts_in}
use Rattle.txt.specs.Zone.{no_texts}
use Rattle.tasks.specs.ZoneText.{with_texts}
use Rattle.tasks.proofs.included.included_texts.Given as goal

abbrev pub invariant-loop-lengths : goal.invariant-loop-lengths
invariant-loop-lengths l = with_texts (texts_in l.texts) (drop l.lengths-index l.included) l.rest
    ≡ with_texts no_texts l.included l.bytes
