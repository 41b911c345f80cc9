use Rattle.std.specs.Prelude.{◌≡◌, length}
use Rattle.base.specs.texts.TokenList.{symbols}
use Rattle.txt.specs.Places.{place_after_items}
use Rattle.txt.proofs.zone.places.place_after_items.Given as goal

abbrev pub invariant-items : goal.invariant-items
invariant-items l = place_after_items (symbols l.lexer) ≡ place_after_items (symbols l.fn.lexer)

abbrev pub decreases-items : goal.decreases-items
decreases-items l = length (symbols l.lexer)
