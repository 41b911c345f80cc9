use Rattle.std.proofs.Common.{reverse}
use Rattle.txt.specs.Parser.{texts_in}
use Rattle.txt.specs.Zone.{max_depth, folded_text}
use Rattle.txt.proofs.Stack.{Remains, work}
use Rattle.txt.proofs.zone.texts.read_texts.Given as goal

abbrev pub invariant-entries : goal.invariant-entries
invariant-entries l = Remains (texts_in l.includes) max_depth (reverse l.below.items) l.text l.context l.lexer
    (folded_text (texts_in l.includes) l.fn.context l.fn.text)

abbrev pub decreases-entries : goal.decreases-entries
decreases-entries l = work (texts_in l.includes) max_depth (reverse l.below.items) l.lexer
