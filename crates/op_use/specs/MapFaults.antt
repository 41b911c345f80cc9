-- What an update is refused for, by what a map of record sets holds (RFC 2136, 3.1, 3.2 and 3.4.1).
use Rattle.base.specs.RrKey.{key_cmp}
use Rattle.base.specs.declared.dns_class.DNSClass.{DNSClass}
use Rattle.base.specs.declared.rr_key.RrKey.{RrKey}
use Rattle.base_data.specs.declared.rdata.RData.{RData}
use Rattle.op_use.specs.Applying.{records_at}
use Rattle.op_use.specs.Server.{is_of_zone, is_same_key, use_of}
use Rattle.rr.specs.Record.{record_key}
use Rattle.rr.specs.RecordSet.{SetValue}
use Rattle.rr.specs.SetChanges.{has_data_of}
use Rattle.rr.specs.declared.record.Record.{Record}
use Rattle.std.specs.BTreeMap as tree
use Rattle.std.specs.BTreeMap.{BTreeMap}
use Rattle.std.specs.List.{list_all, list_any}
use Rattle.std.specs.Ordering.{eq_by_cmp}
use Rattle.std.specs.Prelude.{Bool, List, is_some, true, ◌&&◌, ◌≡◌}

-- whether a prerequisite is by value: of the zone's class
abbrev pub is_by_value : DNSClass → Record RData → Bool
is_by_value class r = is_of_zone (use_of class r.dns_class)

-- whether a record q by value lists the data of x for the set of r
abbrev pub asks_for : DNSClass → Record RData → Record RData → Record RData → Bool
asks_for class r x q = is_by_value class q && (is_same_key r q && has_data_of q x)

-- whether the set under a key has the data of a record
abbrev pub there_under : BTreeMap RrKey SetValue → Record RData → RrKey → Bool
there_under m r k = list_any (has_data_of r) (records_at m k)

-- whether it has only data that the records list for the set under that key
abbrev pub complete_at : BTreeMap RrKey SetValue → DNSClass → List (Record RData) → RrKey → Bool
complete_at m class rs k = list_all (λ (x : Record RData). list_any (λ (q : Record RData).
    is_by_value class q && (eq_by_cmp key_cmp k (record_key q) && has_data_of q x)) rs)
    (records_at m k)

-- so are the sets under the keys of a map
abbrev pub AreComplete : {V : Type 0} → BTreeMap RrKey SetValue → DNSClass → List (Record RData)
    → BTreeMap RrKey V → Type 0
AreComplete {V} m class rs held = (k : RrKey) → is_some (tree.get key_cmp held k) ≡ true
    → complete_at m class rs k ≡ true
