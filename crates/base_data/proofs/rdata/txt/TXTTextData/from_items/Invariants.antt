use Rattle.base_data.proofs.TextItems.{IsRead}
use Rattle.base_data.proofs.rdata.txt.TXTTextData.from_items.Given as goal

-- the bytes hold the strings of the items so far
abbrev pub invariant-loop-item : goal.invariant-loop-item
invariant-loop-item l = IsRead l.bytes.items l.items l.item-index
