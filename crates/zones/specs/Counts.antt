-- How many record sets the zone of a text has.
use Rattle.std.specs.Prelude.{Err, Ok, Result, length, ℕ, ◌≡◌}
use Rattle.base.specs.names.Labels.{NameValue}
use Rattle.base.specs.texts.TextFaults.{Fault}
use Rattle.txt.specs.ZoneSets.{ZoneSets}

-- the text is that of a zone, and this is how many sets it has
abbrev pub HasSets : Result (NameValue × ZoneSets) Fault → ℕ → Type 0
HasSets (Ok zone) count = count ≡ length zone.1
HasSets (Err fault) count = ⊥
