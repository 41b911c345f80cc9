use Rattle.std.specs.Prelude.{◌≡◌, [], length, map}
use Rattle.base.specs.texts.TokenList.{symbols}
use Rattle.txt.specs.Entries.{items_after}
use Rattle.txt.proofs.zone.entry.cut_items.Given as goal

abbrev pub invariant-items : goal.invariant-items
invariant-items l = items_after (symbols l.lexer) (map (λ item. item.now) l.items.items) ≡ items_after
    (symbols l.fn.lexer) []

abbrev pub decreases-items : goal.decreases-items
decreases-items l = length (symbols l.lexer)
