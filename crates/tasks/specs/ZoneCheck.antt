-- What the check of zone text is asked for: whether the text is refused, for what, and where.
use Rattle.std.specs.Prelude.{ℕ, List, [], ◌∷◌, Option, Some, None, Result, Ok, Err, true}
use Rattle.std.specs.String.{string_bytes}
use Rattle.txt.specs.Places.{Position}
use Rattle.txt.specs.Zone.{PlacedFault, no_texts, placed_zone_by}
use Rattle.parsed_zone.specs.Faults.{fault_number}
use Rattle.tasks.specs.Asked.{Asked, ◌>>=◌}
use Rattle.tasks.specs.ZoneText.{characters, origin_of_text, with_texts}
use Rattle.tasks.specs.declared.included.Included.{Included}
use Rattle.tasks.specs.declared.zone_check.Told.{Told}

-- a fault as it is told: its number, the name of the included text that it stands in, if it is one, and its place there
pub record ToldFault : Type 0 where
  pub number : ℕ
  pub name : List ℕ
  pub position : Position

-- the name of the last text that was opened; without one, this
abbrev pub last_name : List ℕ → List (List ℕ × ℕ) → List ℕ
last_name name [] = name
last_name name (inclusion ∷ more) = last_name inclusion.0 more

-- the fault that a text has, if it has one
abbrev pub fault_told : {A : Type 0} → Result A PlacedFault → Option ToldFault
fault_told (Ok zone) = None
fault_told (Err found) = Some (record {
  number = fault_number found.fault;
  name = last_name [] found.opened;
  position = found.position;
})

-- the fault of a text under the origin that a text names, if it does, where these texts may be included
abbrev pub zone_checked : List ℕ → List ℕ → List Included → List ℕ → Asked (Option ToldFault)
zone_checked origin text included bytes =
    origin_of_text origin >>= λ under. characters text >>= λ chars.
    with_texts no_texts included bytes >>= λ texts.
    Ok (fault_told (placed_zone_by true texts under chars))

-- the fault that is told
abbrev pub told_value : Told → ToldFault
told_value told = record {
  number = told.refusal.number;
  name = string_bytes told.name;
  position = record { line = told.line; column = told.column };
}
