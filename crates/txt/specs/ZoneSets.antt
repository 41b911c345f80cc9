-- The record sets of a zone, by owner and type, as the entries of a map.
use Rattle.std.specs.BTreeMap.{insert_entry, is_at}
use Rattle.std.specs.Map.{lookup, set_value}
use Rattle.std.specs.List.{AllByRecursion}
use Rattle.std.specs.Prelude.{◌≡◌, ◌≢◌, ◌≤◌, true, List, [], Option, Some, None, Result, Ok, Err, codes, if◌then◌else◌}
use Rattle.std.specs.Prelude.{length}
use Rattle.base.specs.names.NameOrder.{same_name}
use Rattle.base.specs.RrKey.{key_cmp, key_of}
use Rattle.base.specs.texts.TextFaults.{Fault, says}
use Rattle.base.specs.declared.rr_key.RrKey.{RrKey}
use Rattle.base_data.specs.Kinds.{type_of_data}
use Rattle.base_data.specs.declared.rdata.RData.{RData}
use Rattle.rr.specs.RecordSet.{IsTidy, SetValue, is_soa, set_of}
use Rattle.rr.specs.SetChanges.{holds_one, insert}
use Rattle.rr.specs.declared.record.Record.{Record}
use Rattle.rr.specs.Record.{record_key}

-- record sets under their keys, in the order of these
abbrev pub ZoneSets : Type 0
ZoneSets = List (RrKey × SetValue)

-- the set under a key, if there is one
abbrev pub set_at : ZoneSets → RrKey → Option SetValue
set_at sets key = lookup (is_at (key_cmp key)) sets

-- what a second SOA of an owner makes
abbrev pub soa_again : Result ZoneSets Fault
soa_again = Err (says (codes "SOA is already specified"))

-- The sets with one more record. A new key takes the set of its record, and another record goes into its set by
-- `insert`, with the serial 0; there is one SOA of an owner.
abbrev pub added_to : ZoneSets → Record RData → Option SetValue → Result ZoneSets Fault
added_to sets r None = Ok (insert_entry key_cmp sets (record_key r) (set_of r))
added_to sets r (Some set) =
    if is_soa (type_of_data r.rdata) then soa_again
    else Ok (set_value (is_at (key_cmp (record_key r))) sets (insert set r 0).1)

-- the sets with one record more
abbrev pub sets_with : ZoneSets → Record RData → Result ZoneSets Fault
sets_with sets r = added_to sets r (set_at sets (record_key r))

-- A set as it stands under a key: of the key's owner and type, as each record is, not empty and tidy, and with one
-- record where only one may stand.
pub record IsKeyed (key : RrKey) (set : SetValue) : Type 0 where
  pub key_is : key ≡ key_of set.name set.record_type
  pub some : set.records ≢ []
  pub own_owner : AllByRecursion (λ (r : Record RData). same_name r.name set.name ≡ true) set.records
  pub tidy : IsTidy set
  pub single : holds_one set.record_type ≡ true → length set.records ≤ 1

-- each set stands under its key
abbrev pub AreKeyed : ZoneSets → Type 0
AreKeyed sets = AllByRecursion (λ (e : RrKey × SetValue). IsKeyed e.0 e.1) sets
