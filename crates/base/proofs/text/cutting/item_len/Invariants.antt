use Rattle.std.proofs.Common.{◌≡◌, ◌≤◌, false, length, take, drop}
use Rattle.base.specs.texts.Tokens.{before, item}
use Rattle.base.proofs.text.cutting.item_len.Given as goal

abbrev pub invariant-bytes : goal.invariant-bytes
invariant-bytes l = (l.at ≤ length l.text)
    × (before (take l.at l.text) (item false (drop l.at l.text)) ≡ item false l.text)

abbrev pub decreases-bytes : goal.decreases-bytes
decreases-bytes l = length (drop l.at l.text)
