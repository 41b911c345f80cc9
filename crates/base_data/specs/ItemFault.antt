-- What is answered of the items of a text.
use Rattle.std.specs.Prelude.{◌≡◌, Option, Some, None, Result, Ok, Err}
use Rattle.base_data.specs.declared.rdata.fields.ItemFault.{ItemFault}
use Rattle.base_data.specs.declared.rdata.fields.ItemFault.TheVariants as faults

-- What was answered of items, seen by view, is what they say, a field or data; they are bad where they say none. Memory
-- may run out at any time.
abbrev pub GivesItems : {X A : Type 0} → (X → A) → Result X ItemFault → Option A → Type 0
GivesItems view (Ok x) said = said ≡ Some (view x)
GivesItems view (Err faults.Bad) said = said ≡ None
GivesItems view (Err faults.Memory) said = Unit {0}
