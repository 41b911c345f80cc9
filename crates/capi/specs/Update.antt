-- What a caller is left with of an update.
use Rattle.std.specs.Prelude.{ℕ, ℤ, ◌<◌, ◌≤◌, Bool, take, List, length}
use Rattle.tasks.specs.Update.{IsSent, IsUpdate, update_asked}
use Rattle.tasks.specs.declared.update.built.Change.{Change}
use Rattle.capi.specs.Answer.{IsAnsweredBy}

-- What comes of the message, and bytes that the buffer has room for are all of it, and mean this.
pub record IsUpdateAnswered (id : ℕ) (use_edns : Bool) (origin : List ℕ) (change : Change)
    (old new : List ℕ) (needed : ℕ) (result : ℤ) : Type 0 where
  pub sent : IsAnsweredBy (IsSent (update_asked id use_edns origin change)) old new needed result
  pub update : 0 < needed → needed ≤ length old → IsUpdate origin change (take needed new)
