use Rattle.base.specs.RrKey.{key_cmp}
use Rattle.base.specs.names.Labels.{NameValue}
use Rattle.base.specs.names.NameOrder.{name_cmp}
use Rattle.base.specs.declared.rr_key.RrKey.{RrKey}
use Rattle.op_use.proofs.OwnerKeys.{owned_entry}
use Rattle.op_use.proofs.apply.changing_zone.ChangingZone.open.Given as goal
use Rattle.op_use.specs.MapUpdates.{has_key}
use Rattle.op_use.specs.OwnerWalk.{HasFrom, least}
use Rattle.op_use.specs.Zone.{is_owned}
use Rattle.rr.specs.RecordSet.{SetValue}
use Rattle.std.proofs.Common.{List, None, Some, cond, ◌++◌, ◌≡◌}
use Rattle.std.specs.BTreeMap.{BTreeMap, get, keys}
use Rattle.std.specs.List.{All, filter, take_while}
use Rattle.std.specs.Map.{keys_of}
use Rattle.std.specs.declared.cmp.Ordering.TheVariants.{Less}

-- the keys found and those among what is left of the owner's are all, and the sets under those found are here
abbrev pub IsOpening : NameValue → BTreeMap RrKey SetValue → List RrKey → BTreeMap RrKey SetValue
    → List (RrKey × SetValue) → Type 0
IsOpening owner m found sets left =
    (found ++ keys_of (take_while (owned_entry owner) left) ≡ filter (λ k. is_owned owner k) (keys m)) ×
    ((q : RrKey) → get key_cmp sets q ≡ cond (has_key q found) (get key_cmp m q) None) ×
    All (λ e. get key_cmp m e.0 ≡ Some e.1) left

-- the walk has what is left, and that has all sets of later owners
abbrev pub IsWalking : NameValue → BTreeMap RrKey SetValue → List (RrKey × SetValue)
    → List (RrKey × SetValue) → Type 0
IsWalking owner m walk left = (walk ≡ left)
    × ((later : NameValue) → name_cmp owner later ≡ Less → HasFrom (least later) m left)

abbrev pub invariant-loop-key : goal.invariant-loop-key
invariant-loop-key l = IsOpening l.owner l.zone.sets l.found.items l.sets l.key-iterator ×
    IsWalking l.owner l.zone.sets l.walk l.key-iterator ×
    goal.iterator-loop-key.can_next l.key-iterator × goal.iterator-loop-key.is_finite l.key-iterator
