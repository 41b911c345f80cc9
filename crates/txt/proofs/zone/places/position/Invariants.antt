use Rattle.std.specs.Prelude.{◌≡◌, ℕ, List, ◌+◌, ◌≤◌, ◌-◌, drop, length}
use Rattle.txt.specs.Places.{position_from}
use Rattle.txt.proofs.zone.places.position.Given as goal

-- what stands from here on has the same place
pub record InOrder (line column at left : ℕ) (text : List ℕ) : Type 0 where
  pub same : position_from line column (drop at text) left ≡ position_from 1 1 text left
  pub within : at ≤ length text
  pub few_lines : line ≤ at + 1
  pub few_columns : column ≤ at + 1

abbrev pub invariant-bytes : goal.invariant-bytes
invariant-bytes l = InOrder l.line l.column l.at l.left l.bytes

abbrev pub decreases-bytes : goal.decreases-bytes
decreases-bytes l = length l.bytes - l.at
