-- What an update makes of a zone's map: which sets are put into it, and which go.
use Rattle.base.specs.names.Labels.{NameValue}
use Rattle.base.specs.names.NameOrder.{name_cmp}
use Rattle.base.specs.RrKey.{key_cmp}
use Rattle.base.specs.declared.dns_class.DNSClass.{DNSClass}
use Rattle.base.specs.declared.rr_key.RrKey.{RrKey}
use Rattle.base_data.specs.declared.rdata.RData.{RData}
use Rattle.op.specs.declared.response_code.ResponseCode.TheVariants.{NoError}
use Rattle.op_use.specs.Applying.{IsApplied, records_at, records_in}
use Rattle.op_use.specs.HeldZone.{HeldZone, zone_held}
use Rattle.op_use.specs.MapUpdates.{IsLeft, has_key, names_set}
use Rattle.op_use.specs.Zone.{is_owned}
use Rattle.op_use.specs.Server.{Sections}
use Rattle.op_use.specs.declared.apply.Answer.TheVariants as answers
use Rattle.op_use.specs.declared.apply.Answer.{Answer}
use Rattle.op_use.specs.declared.apply.outcome.Outcome.{Outcome}
use Rattle.rr.specs.RecordSet.{SetValue}
use Rattle.rr.specs.declared.record.Record.{Record}
use Rattle.std.specs.BTreeMap as tree
use Rattle.std.specs.BTreeMap.{BTreeMap}
use Rattle.std.specs.Borrow.{Bor}
use Rattle.std.specs.List.Sorted.{IsSortedByKey}
use Rattle.std.specs.Map.{lookup}
use Rattle.std.specs.Prelude.{Bool, List, None, Option, Some, cond, false, is_some, map, true, ◌&&◌, ◌≡◌}
use Rattle.std.specs.Prelude.{◌≢◌, ◌⊎◌}

-- a set that is added, or what is there
abbrev pub added_at : Option SetValue → Option SetValue → Option SetValue
added_at (Some s) old = Some s
added_at None old = old

-- the first set under a key
abbrev pub found : List (RrKey × SetValue) → RrKey → Option SetValue
found es q = lookup (tree.is_at (key_cmp q)) es

-- what is changed under a key: a set is added, one is put in the place of another, a set goes
pub record Change : Type 0 where
  pub added : Option SetValue
  pub replaced : Option SetValue
  pub is_gone : Bool

-- what an outcome changes under a key
abbrev pub change_at : Outcome → RrKey → Change
change_at o q = record {
  added = found o.added.items q;
  replaced = found o.replaced.items q;
  is_gone = has_key q o.gone.items;
}

-- nothing
abbrev pub no_change : Change
no_change = record { added = None; replaced = None; is_gone = false }

-- what stands by a change, where old stood
abbrev pub changed : Change → Option SetValue → Option SetValue
changed c old = cond c.is_gone None (added_at c.replaced (added_at c.added old))

-- the new map is the old one by an outcome
abbrev pub Installs : Outcome → BTreeMap RrKey SetValue → BTreeMap RrKey SetValue → Type 0
Installs o old new = (q : RrKey)
    → tree.get key_cmp new q ≡ changed (change_at o q) (tree.get key_cmp old q)

-- a change fits what a map has: a set is added where there is none, and replaced where there is one; and something else
-- stands there then, unless nothing is changed
pub record FitsThere (c : Change) (old : Option SetValue) : Type 0 where
  pub absent : is_some c.added ≡ true → old ≡ None
  pub there : is_some c.replaced ≡ true → is_some old ≡ true
  pub alters : changed c old ≡ old → c ≡ no_change

-- the changes of an outcome fit a map
abbrev pub IsOutcome : Outcome → BTreeMap RrKey SetValue → Type 0
IsOutcome o m = (q : RrKey) → FitsThere (change_at o q) (tree.get key_cmp m q)

-- A change under a key leaves there what the updates rs of a zone do, but a set of the same records stays.
pub record Leaves (rs : List (Record RData)) (z : HeldZone) (q : RrKey) (c : Change) : Type 0 where
  pub fits : FitsThere c (tree.get key_cmp z.sets q)
  pub left : IsLeft (zone_held z) rs q (tree.get key_cmp z.sets q)
      (changed c (tree.get key_cmp z.sets q))
  pub kept : records_in (changed c (tree.get key_cmp z.sets q)) ≡ records_at z.sets q
      → changed c (tree.get key_cmp z.sets q) ≡ tree.get key_cmp z.sets q

-- the same of an outcome under each key
abbrev pub UpdatesTo : List (Record RData) → HeldZone → Outcome → Type 0
UpdatesTo rs z o = (q : RrKey) → Leaves rs z q (change_at o q)

-- an outcome has nothing under a key
abbrev pub HasNothing : Outcome → RrKey → Type 0
HasNothing o q = change_at o q ≡ no_change

-- whether an outcome has something under some key
abbrev pub HasAny : Bool → Outcome → Type 0
HasAny true o = (q : RrKey) × (change_at o q ≢ no_change)
HasAny false o = (q : RrKey) → HasNothing o q

-- the new outcome is the old one, and under an owner's keys leaves what the updates rs do
pub record UpdatesOwner (owner : NameValue) (rs : List (Record RData)) (z : HeldZone) (old new : Outcome)
    : Type 0 where
  pub own : (q : RrKey) → is_owned owner q ≡ true → Leaves rs z q (change_at new q)
  pub others : (q : RrKey) → is_owned owner q ≡ false → change_at new q ≡ change_at old q

-- lent records
abbrev pub each : List (Bor (Record RData)) → List (Record RData)
each rs = map (λ r. r.now) rs

-- no update stands before one of an earlier owner
abbrev pub IsSortedByOwner : List (Bor (Record RData)) → Type 0
IsSortedByOwner rs = IsSortedByKey (λ r. r.now.name) name_cmp rs

-- what stands under a key by an outcome is what it was, where the records are those of now, and else what stands now
abbrev pub IsSettled : Option SetValue → Option SetValue → Option SetValue → Type 0
IsSettled old now new = ((new ≡ old) × (records_in now ≡ records_in old))
    ⊎ ((new ≡ now) × (records_in now ≢ records_in old))

-- what an outcome has under a key, before and then: the set that stands now is settled, where there is one that an
-- update names, and else it is the same
abbrev pub SettlesAt : Bool → Option SetValue → Option SetValue → Change → Change → Type 0
SettlesAt true was now old new = IsSettled was now (changed new was) × FitsThere new was
SettlesAt false was now old new = new ≡ old

-- The new outcome is the old one with each set of the map now that an update names, but where the map that was has the
-- same records.
abbrev pub Settles : List (Record RData) → BTreeMap RrKey SetValue → BTreeMap RrKey SetValue
    → Outcome → Outcome → Type 0
Settles rs was now old new = (q : RrKey)
    → SettlesAt (names_set rs q && is_some (tree.get key_cmp now q))
    (tree.get key_cmp was q) (tree.get key_cmp now q) (change_at old q) (change_at new q)

-- what comes of an update of a map: nothing with a code, or the outcome of a map that is as a server makes it
abbrev pub IsAnswer : NameValue → DNSClass → Sections → BTreeMap RrKey SetValue → Answer → Type 0
IsAnswer origin class s old (answers.Refused code) = IsApplied origin class s old code old
IsAnswer origin class s old (answers.Done o) = IsOutcome o old
    × ((new : BTreeMap RrKey SetValue) → Installs o old new
    → IsApplied origin class s old NoError new)
