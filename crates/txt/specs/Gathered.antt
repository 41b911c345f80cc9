-- The sets that records make, each with its key.
use Rattle.std.specs.BTreeMap.{insert_entry, is_at}
use Rattle.std.specs.List.{All, slice_get}
use Rattle.std.specs.Map.{lookup}
use Rattle.std.specs.Prelude.{◌≡◌, ◌≢◌, ◌-◌, List, length, [], ◌∷◌, Option, Some, None, is_some, true, ⊤}
use Rattle.std.specs.declared.cmp.Ordering.TheVariants.{Less}
use Rattle.base.specs.RrKey.{key_cmp}
use Rattle.base.specs.declared.rr_key.RrKey.{RrKey}
use Rattle.base_data.specs.declared.rdata.RData.{RData}
use Rattle.rr.specs.RecordSet.{SetValue, is_soa, set_of}
use Rattle.rr.specs.SetChanges.{insert}
use Rattle.rr.specs.declared.record.Record.{Record}
use Rattle.txt.specs.ZoneSets.{ZoneSets, set_at}
use Rattle.rr.specs.Record.{record_key}

-- records with their keys
abbrev pub KeyedRecords : Type 0
KeyedRecords = List (RrKey × Record RData)

-- each key is that of its record
abbrev pub HaveOwnKeys : KeyedRecords → Type 0
HaveOwnKeys entries = All (λ (e : RrKey × Record RData). e.0 ≡ record_key e.1) entries

-- a set with one record more, or that record's own
abbrev pub joined_set : Option SetValue → Record RData → SetValue
joined_set None r = set_of r
joined_set (Some set) r = (insert set r 0).1

-- the sets with one record more, whatever its type
abbrev pub with_keyed : ZoneSets → RrKey × Record RData → ZoneSets
with_keyed sets e = insert_entry key_cmp sets e.0 (joined_set (set_at sets e.0) e.1)

-- the same with records, one after the other
abbrev pub with_all : ZoneSets → KeyedRecords → ZoneSets
with_all sets [] = sets
with_all sets (e ∷ es) = with_all (with_keyed sets e) es

-- the sets that records make
abbrev pub gathered : KeyedRecords → ZoneSets
gathered = with_all []

-- the keys of records never descend
abbrev pub IsAscending : KeyedRecords → Type 0
IsAscending [] = ⊤
IsAscending (e ∷ []) = ⊤
IsAscending (e ∷ f ∷ es) = (key_cmp f.0 e.0 ≢ Less) × IsAscending (f ∷ es)

-- the key doesn't come before the last one of these
abbrev pub ComesAfter : ZoneSets → RrKey → Type 0
ComesAfter sets key = (e : RrKey × SetValue) → slice_get sets (length sets - 1) ≡ Some e
    → key_cmp key e.0 ≢ Less

-- the last one of these, if there is one, is this key
abbrev pub HasLastKey : ZoneSets → RrKey → Type 0
HasLastKey sets key = (e : RrKey × SetValue) → slice_get sets (length sets - 1) ≡ Some e
    → e.0 ≡ key

-- of the keys of SOA records, those are known that have a set
abbrev pub KnowsSoas : List (RrKey × ⊤) → KeyedRecords → Type 0
KnowsSoas soas entries = (key : RrKey) → is_soa key.record_type ≡ true
    → is_some (lookup (is_at (key_cmp key)) soas) ≡ is_some (set_at (gathered entries) key)
