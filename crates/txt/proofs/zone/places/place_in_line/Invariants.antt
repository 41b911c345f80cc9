use Rattle.std.specs.Prelude.{◌≡◌, length}
use Rattle.base.specs.texts.TokenList.{symbols}
use Rattle.txt.specs.Places.{place_in_line}
use Rattle.txt.proofs.zone.places.place_in_line.Given as goal

abbrev pub invariant-words : goal.invariant-words
invariant-words l = place_in_line l.misplaced (symbols l.lexer) ≡ place_in_line l.misplaced (symbols l.fn.lexer)

abbrev pub decreases-words : goal.decreases-words
decreases-words l = length (symbols l.lexer)
