use Rattle.std.proofs.Common.{◌≡◌, map, take}
use Rattle.base.specs.texts.Tokens.{texts}
use Rattle.base.proofs.text.token.copied.Given as goal

abbrev pub invariant-loop-item : goal.invariant-loop-item
invariant-loop-item l = texts l.copies.items ≡ map (λ item. item.now) (take l.item-index l.lent)
