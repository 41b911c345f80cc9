-- Sets that stand in blocks.
use Rattle.std.specs.Prelude.{◌≢◌, [], ◌++◌, All, List, Vec}
use Rattle.std.specs.List.{flat_map}
use Rattle.std.specs.declared.alloc.Global.{Global}
use Rattle.base.specs.declared.rr_key.RrKey.{RrKey}
use Rattle.rr.specs.RecordSet.{SetValue}
use Rattle.txt.specs.ZoneSets.{ZoneSets}

-- no block is empty
abbrev pub AreFilled : List (Vec (RrKey × SetValue) Global) → Type 0
AreFilled blocks = All (λ b. b.items ≢ []) blocks

-- the sets of these blocks, one after another
abbrev pub sets_in : List (Vec (RrKey × SetValue) Global) → ZoneSets
sets_in = flat_map (λ b. b.items)

-- the same, and then those of the last one
abbrev pub sets_of : List (Vec (RrKey × SetValue) Global) → ZoneSets → ZoneSets
sets_of blocks last = sets_in blocks ++ last
