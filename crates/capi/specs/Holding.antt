-- How a handle holds its zone.
use Rattle.std.specs.Arc.{arc_value}
use Rattle.std.specs.declared.sync.Arc.{Arc}
use Rattle.std.specs.Prelude.{Bool, Err, None, Ok, Option, Result, Some, false, pos, true, ℕ, ℤ, ◌≡◌}
use Rattle.std.specs.declared.alloc.Global.{Global}
use Rattle.tasks.specs.Refusals.{closed}
use Rattle.tasks.specs.declared.refusal.Refusal.{Refusal}
use Rattle.capi.specs.declared.zone_handle.held.HeldZone.{HeldZone}
use Rattle.capi.specs.declared.zone_handle.holding.Holding.{Holding}
use Rattle.capi.specs.declared.zone_handle.holding.Holding.TheVariants as holdings

-- the zone, whoever else holds it
abbrev pub zone_in : Holding → Option HeldZone
zone_in (holdings.Own zone) = Some zone
zone_in (holdings.Shared zone) = Some (arc_value zone)
zone_in holdings.Empty = None

-- whether other handles may hold it too
abbrev pub is_shared : Holding → Bool
is_shared (holdings.Own zone) = false
is_shared (holdings.Shared zone) = true
is_shared holdings.Empty = false

-- whether a handle holds its zone alone
abbrev pub is_own : Holding → Bool
is_own (holdings.Own zone) = true
is_own (holdings.Shared zone) = false
is_own holdings.Empty = false

-- the zone of a handle, none of a closed one
abbrev pub zone_held : Option Holding → Option HeldZone
zone_held None = None
zone_held (Some holding) = zone_in holding

-- Other handles may hold a handle's zone too.
abbrev pub IsShared : Option Holding → Type 0
IsShared None = ⊥
IsShared (Some holding) = is_shared holding ≡ true

-- No other handle holds a handle's zone.
abbrev pub IsAlone : Option Holding → Type 0
IsAlone None = ⊥
IsAlone (Some holding) = is_own holding ≡ true

-- A handle whose call wasn't refused holds its zone alone; and so does one that did before, refused or not.
pub record EndsAlone (old new : Option Holding) (result : ℤ) : Type 0 where
  pub stays : IsAlone old → IsAlone new
  pub answered : (n : ℕ) → result ≡ pos n → IsAlone new

-- What another handle is to hold is this zone, if there is one; or memory ran out.
abbrev pub Shares : Option HeldZone → Result (Arc HeldZone Global) Refusal → Type 0
Shares None (Ok shared) = ⊥
Shares None (Err refusal) = refusal.number ≡ closed
Shares (Some zone) (Ok shared) = arc_value shared ≡ zone
Shares (Some zone) (Err refusal) = refusal.number ≡ 3
