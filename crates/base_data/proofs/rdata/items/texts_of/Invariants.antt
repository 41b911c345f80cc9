use Rattle.std.proofs.Common.{◌≡◌, map, take}
use Rattle.base_data.proofs.rdata.items.texts_of.Given as goal

abbrev pub invariant-loop-item : goal.invariant-loop-item
invariant-loop-item g l = map (λ t. t.now) l.texts.items ≡ map g.S.AsStr.text (take l.item-index l.items)
