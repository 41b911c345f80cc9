-- What `lookup` answers, as what the zone has.
use Rattle.authority.specs.Lookup.{Alias, Cut, Data, Finding, NoName, Outside, alias_in, exists_among, least_ttl}
use Rattle.authority.specs.Lookup.{records_of, shown}
use Rattle.authority.specs.declared.found.Found.TheVariants as codes
use Rattle.authority.specs.declared.found.Found.{Found}
use Rattle.authority.specs.declared.sets.AtName.{AtName}
use Rattle.base.specs.names.Labels.{NameValue}
use Rattle.base.specs.RrKey.{key_cmp, key_of}
use Rattle.base.specs.declared.dns_class.DNSClass.{DNSClass}
use Rattle.base.specs.declared.record_type.RecordType.TheVariants as types
use Rattle.base.specs.declared.record_type.RecordType.{RecordType}
use Rattle.base.specs.declared.rr_key.RrKey.{RrKey}
use Rattle.base_data.specs.declared.rdata.RData.TheVariants as kinds
use Rattle.base_data.specs.declared.rdata.RData.{RData}
use Rattle.op_use.specs.Applying.{data_in_set}
use Rattle.rr.specs.RecordSet.{SetValue}
use Rattle.rr.specs.declared.record.Record.{Record}
use Rattle.std.specs.BTreeMap as tree
use Rattle.std.specs.BTreeMap.{BTreeMap}
use Rattle.std.specs.Borrow.{Bor}
use Rattle.std.specs.List.{flat_map}
use Rattle.std.specs.Option.{option_copied}
use Rattle.std.specs.Prelude.{List, None, Option, Some, [], false, ℕ, ◌≡◌}

-- the records that are answered of a set, whose owner is the name as it was asked
abbrev pub answered : DNSClass → NameValue → SetValue → List (Record RData)
answered class owner s = records_of class owner (data_in_set s)

-- the record of an alias that leads to a name
abbrev pub alias_value : DNSClass → NameValue → ℕ → NameValue → Record RData
alias_value class owner ttl target = record {
  name = owner;
  dns_class = class;
  ttl = ttl;
  rdata = kinds.CNAME (record { name = target });
  mdns_cache_flush = false;
}

-- the record that is answered of an alias in a set
abbrev pub alias_of : DNSClass → NameValue → SetValue → NameValue → Record RData
alias_of class owner s target = alias_value class owner (least_ttl (shown (data_in_set s))) target

-- What stands at a name is what the map has under its keys, and whether it has any at the name or below it.
abbrev pub IsAtName : BTreeMap RrKey SetValue → NameValue → RecordType → AtName → Type 0
IsAtName sets n t own = (own.exists ≡ exists_among n (tree.keys sets))
    × (option_copied own.servers ≡ tree.get key_cmp sets (key_of n types.NS))
    × (option_copied own.alias ≡ tree.get key_cmp sets (key_of n types.CNAME))
    × (option_copied own.asked ≡ tree.get key_cmp sets (key_of n t))

-- the set of name servers at a cut, if there is a cut
abbrev pub IsCutSet : BTreeMap RrKey SetValue → Option NameValue → Option SetValue → Type 0
IsCutSet sets None o = o ≡ None
IsCutSet sets (Some m) o = (s : SetValue) × (o ≡ Some s)
    × (tree.get key_cmp sets (key_of m types.NS) ≡ Some s)

-- The set of an alias and the name that it leads to are those of the alias that the zone has, if it has one.
abbrev pub IsAlias : DNSClass → NameValue → Option (Bor SetValue × Bor NameValue)
    → Option (Record RData × NameValue) → Type 0
IsAlias class n None a = a ≡ None
IsAlias class n (Some found) a = (r : Record RData) × (a ≡ Some (r, found.1.now))
    × (alias_in (answered class n found.0.now) ≡ Some (r, found.1.now))

-- What was found for a name in the sets of a zone of a class is what the zone has.
abbrev pub IsFound : DNSClass → BTreeMap RrKey SetValue → NameValue → Found → Finding → Type 0
IsFound class sets n codes.Outside f = f ≡ Outside
IsFound class sets n codes.NoName f = f ≡ NoName
IsFound class sets n codes.NoData f = f ≡ Data []
IsFound class sets n (codes.Cut s) f = (m : NameValue) × (f ≡ Cut m)
    × (tree.get key_cmp sets (key_of m types.NS) ≡ Some s.now)
IsFound class sets n (codes.Alias s target) f = (r : Record RData) × (f ≡ Alias r target.now)
    × (alias_in (answered class n s.now) ≡ Some (r, target.now))
IsFound class sets n (codes.Data s) f = f ≡ Data (answered class n s.now)
IsFound class sets n (codes.All found) f = f
    ≡ Data (flat_map (λ s. answered class n s.now) found.items)
