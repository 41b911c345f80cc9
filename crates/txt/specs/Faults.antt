-- A fault with its place, as it is answered.
use Rattle.std.specs.Prelude.{◌≡◌, ℕ, List, map, Option, Some, None, Result, Ok, Err}
use Rattle.std.specs.String.{string_bytes}
use Rattle.base.specs.texts.TextFaults.{Fault, fault_of}
use Rattle.txt.specs.Places.{position}
use Rattle.txt.specs.Zone.{PlacedFault}
use Rattle.txt.specs.declared.zone.fault.FaultPlace.{FaultPlace}
use Rattle.txt.specs.declared.zone.fault.Inclusion.{Inclusion}
use Rattle.txt.specs.declared.zone.fault.ZoneFault.{ZoneFault}
use Rattle.txt.specs.declared.zone.texts.Frame.{Frame}

-- a text that was opened, by its name, and the line of that name
abbrev pub inclusion_value : Inclusion → List ℕ × ℕ
inclusion_value inclusion = (string_bytes inclusion.name, inclusion.line)

-- the same of a text that another one was opened in
abbrev pub frame_opened : Frame → List ℕ × ℕ
frame_opened f = (string_bytes f.name, (position f.text.now f.left).line)

-- a fault at a place
abbrev pub fault_value : Fault → FaultPlace → PlacedFault
fault_value fault place = record {
  fault = fault;
  opened = map inclusion_value place.inclusions.items;
  position = record { line = place.line; column = place.column };
}

-- where a fault was said, it is what the definition makes, at its place; what is no fault has none
abbrev pub FailsAtPlace : {A : Type 0} → Option Fault → Option FaultPlace → Result A PlacedFault
    → Type 0
FailsAtPlace None None made = Unit {0}
FailsAtPlace (Some fault) (Some place) made = made ≡ Err (fault_value fault place)
FailsAtPlace fault place made = ⊥

-- A refusal is what the definition makes: its fault at its place. Memory may run out at any time, at no place.
abbrev pub FailsAt : {A : Type 0} → ZoneFault → Result A PlacedFault → Type 0
FailsAt refused made = FailsAtPlace (fault_of refused.error) refused.place made

-- What was answered is what the definition makes, or its fault at its place. Memory may run out at any time.
abbrev pub GivesPlaced : {X A : Type 0} → (X → A) → Result X ZoneFault → Result A PlacedFault
    → Type 0
GivesPlaced view (Ok x) made = made ≡ Ok (view x)
GivesPlaced view (Err refused) made = FailsAt refused made
