-- What a zone has for a name and a type (RFC 1034, 4.3.2, steps 2 and 3; RFC 4592).
use Rattle.base.specs.names.Labels.{NameValue}
use Rattle.base.specs.names.NameOrder.{lowered, same_name}
use Rattle.base.specs.names.Parents.{asterisk, is_at_or_below, is_below, is_within, parent}
use Rattle.base.specs.RrKey.{key_of}
use Rattle.base.specs.declared.dns_class.DNSClass.{DNSClass}
use Rattle.base.specs.declared.record_type.RecordType.TheVariants as types
use Rattle.base.specs.declared.record_type.RecordType.{RecordType}
use Rattle.base.specs.declared.rr_key.RrKey.{RrKey}
use Rattle.base_data.specs.RData.{is_empty_data}
use Rattle.base_data.specs.declared.rdata.RData.TheVariants as kinds
use Rattle.base_data.specs.declared.rdata.RData.{RData}
use Rattle.op_use.specs.Server.{is_any, is_cname}
use Rattle.op_use.specs.Zone.{Datum, Zone, at, has_set, is_owned}
use Rattle.rr.specs.declared.record.Record.{Record}
use Rattle.std.specs.FinMap as fin
use Rattle.std.specs.List.{filter, flat_map, fold, list_any}
use Rattle.std.specs.Option.{option_or}
use Rattle.std.specs.Prelude.{Bool, List, None, Option, Some, [], false, if◌then◌else◌, map, min, not, true, ℕ, ◌&&◌}
use Rattle.std.specs.Prelude.{◌||◌, ◌∷◌}

-- a name of these labels
abbrev pub name_with : Bool → List (List ℕ) → NameValue
name_with absolute labels = record { labels = labels; absolute = absolute }

-- something stands at a name or below it, by the keys of the sets
abbrev pub exists_among : NameValue → List RrKey → Bool
exists_among n ks = list_any (λ (k : RrKey). is_at_or_below n k.name) ks

-- something stands at it or below it (RFC 4592, 2.2.2; RFC 8020, 2)
abbrev pub exists : Zone → NameValue → Bool
exists z n = exists_among n (fin.keys z.sets)

-- the type DS
abbrev pub is_ds : RecordType → Bool
is_ds types.DS = true
is_ds _ = false

-- the name above which, or at which, cuts are asked for: a DS set stands above its own cut (RFC 4035, 3.1.4.1)
abbrev pub side_asked : RecordType → NameValue → NameValue
side_asked t n = if is_ds t then parent n else n

-- whether there is a set of name servers
abbrev pub has_servers : Zone → NameValue → Bool
has_servers z n = has_set z (key_of n types.NS)

-- a name, where it is a cut: it lies below the origin and has name servers (RFC 1034, 4.2.1)
abbrev pub if_cut : Zone → NameValue → Option NameValue
if_cut z n = if is_below z.origin n && has_servers z n then Some n else None

-- the shortest end of labels that is a cut
abbrev pub cut_on : Zone → Bool → List (List ℕ) → Option NameValue
cut_on z absolute [] = None
cut_on z absolute (label ∷ labels) =
    option_or (cut_on z absolute labels) (if_cut z (name_with absolute (label ∷ labels)))

-- the highest cut above a name or at it
abbrev pub highest_cut : Zone → NameValue → Option NameValue
highest_cut z n = cut_on z n.absolute n.labels

-- the highest cut on the way (RFC 1034, 4.3.2, 3b)
abbrev pub cut_over : Zone → RecordType → NameValue → Option NameValue
cut_over z t n = highest_cut z (side_asked t n)

-- whether a name exists, or is the origin, which does in any case
abbrev pub encloses : Zone → NameValue → Bool
encloses z n = exists z n || same_name n z.origin

-- the longest end of labels that exists
abbrev pub end_that_exists : Zone → Bool → List (List ℕ) → NameValue
end_that_exists z absolute [] = name_with absolute []
end_that_exists z absolute (label ∷ labels) =
    if encloses z (name_with absolute (label ∷ labels)) then name_with absolute (label ∷ labels)
    else end_that_exists z absolute labels

-- the closest encloser: the longest end that exists (RFC 4592, 3.3.1)
abbrev pub encloser : Zone → NameValue → NameValue
encloser z n = end_that_exists z n.absolute n.labels

-- the asterisk directly below a name (RFC 4592, 2.1.1)
abbrev pub wildcard_below : NameValue → NameValue
wildcard_below n = record n { labels = asterisk ∷ n.labels }

-- a name, where it exists
abbrev pub if_exists : Zone → NameValue → Option NameValue
if_exists z n = if exists z n then Some n else None

-- where its data stands: there, or at the asterisk below its closest encloser (4.3.2, 3c; RFC 4592, 3.3.2)
abbrev pub source : Zone → NameValue → Option NameValue
source z n = if exists z n then Some n else if_exists z (wildcard_below (encloser z n))

-- the data that is answered: empty data, which an update may add, has no place in an answer
abbrev pub shown : List Datum → List Datum
shown ds = filter (λ (d : Datum). not (is_empty_data d.rdata)) ds

-- the least TTL (RFC 2181, 5.2)
abbrev pub least_ttl : List Datum → ℕ
least_ttl [] = 0
least_ttl (d ∷ ds) = fold (λ (ttl : ℕ) (e : Datum). min ttl e.ttl) d.ttl ds

-- a record of an owner
abbrev pub record_of : DNSClass → NameValue → ℕ → Datum → Record RData
record_of class owner ttl d = record {
  name = owner;
  dns_class = class;
  ttl = ttl;
  rdata = d.rdata;
  mdns_cache_flush = false;
}

-- a record with its owner in lower case
abbrev pub owner_lowered : Record RData → Record RData
owner_lowered r = record r { name = lowered r.name }

-- data as the records of an owner, each with the least TTL
abbrev pub records_of : DNSClass → NameValue → List Datum → List (Record RData)
records_of class owner ds = map (record_of class owner (least_ttl (shown ds))) (shown ds)

-- the sets of an owner
abbrev pub sets_of : Zone → NameValue → List (RrKey × List Datum)
sets_of z s = filter (λ (e : RrKey × List Datum). is_owned s e.0) (fin.entries z.sets)

-- the records of sets
abbrev pub records_of_sets : DNSClass → NameValue → List (RrKey × List Datum) → List (Record RData)
records_of_sets class owner es = flat_map (λ (e : RrKey × List Datum). records_of class owner e.1) es

-- the records under a key, whose owner is the name as it was asked
abbrev pub records : Zone → NameValue → RrKey → List (Record RData)
records z owner k = records_of z.class owner (at z k)

-- the name that an alias leads to
abbrev pub target_of : RData → Option NameValue
target_of (kinds.CNAME x) = Some x.name
target_of _ = None

-- where the first alias among records leads
abbrev pub first_target : List (Record RData) → Option NameValue
first_target [] = None
first_target (r ∷ rs) = option_or (target_of r.rdata) (first_target rs)

-- a record that leads to this name, or what comes after it
abbrev pub alias_or : Record RData → Option NameValue → Option (Record RData × NameValue)
    → Option (Record RData × NameValue)
alias_or r (Some target) more = Some (r, target)
alias_or r None more = more

-- the first alias among records, and where it leads
abbrev pub alias_in : List (Record RData) → Option (Record RData × NameValue)
alias_in [] = None
alias_in (r ∷ rs) = alias_or r (target_of r.rdata) (alias_in rs)

-- the alias at s, unless it is asked for itself, or everything is (4.3.2, 3a)
abbrev pub alias_at : Zone → RecordType → NameValue → NameValue
    → Option (Record RData × NameValue)
alias_at z t n s = if is_cname t || is_any t then None
    else alias_in (records z n (key_of s types.CNAME))

-- the records of the type at s, for ANY those of each of its sets (RFC 1035, 3.2.3)
abbrev pub asked : Zone → RecordType → NameValue → NameValue → List (Record RData)
asked z t n s = if is_any t then records_of_sets z.class n (sets_of z s) else records z n (key_of s t)

-- what a zone has for a name and a type: the name lies outside the zone; it has nothing; a cut is above it or at it; an
-- alias, and where it leads; records, none where there are none of the type
pub data Finding : Type 0 where
  Outside : Finding
  NoName : Finding
  Cut : NameValue → Finding
  Alias : Record RData → NameValue → Finding
  Data : List (Record RData) → Finding

-- an alias, or else records
abbrev pub alias_else : Option (Record RData × NameValue) → List (Record RData) → Finding
alias_else (Some alias) rs = Alias alias.0 alias.1
alias_else None rs = Data rs

-- what stands at the source of the data, if there is one
abbrev pub at_source : Zone → RecordType → NameValue → Option NameValue → Finding
at_source z t n None = NoName
at_source z t n (Some s) = alias_else (alias_at z t n s) (asked z t n s)

-- a cut, or else what stands at the source
abbrev pub cut_else : Option NameValue → Finding → Finding
cut_else (Some m) f = Cut m
cut_else None f = f

-- what a zone has for a name and a type
abbrev pub lookup : Zone → RecordType → NameValue → Finding
lookup z t n = if is_within z.origin n
    then cut_else (cut_over z t n) (at_source z t n (source z n)) else Outside
