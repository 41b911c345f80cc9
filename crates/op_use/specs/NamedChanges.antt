-- What updates make of a zone: data of a set merged into it, and data, sets and names taken out of it.
use Rattle.std.specs.Prelude.{Bool, not, List, [], ◌∷◌, ◌++◌, ◌&&◌, ◌||◌, map, if◌then◌else◌}
use Rattle.std.specs.List.{filter, list_all, list_any}
use Rattle.std.specs.FinMap as fin
use Rattle.base.specs.names.Labels.{NameValue}
use Rattle.base.specs.RrKey.{key_of}
use Rattle.base.specs.declared.rr_key.RrKey.{RrKey}
use Rattle.base_data.specs.SameData.{same_data}
use Rattle.base_data.specs.declared.rdata.RData.{RData}
use Rattle.rr.specs.RecordSet.{SetValue}
use Rattle.rr.specs.declared.record.Record.{Record}
use Rattle.op_use.specs.Zone.{Datum, Zone, at, is_guarded, is_owned, put}

-- a record's data and TTL
abbrev pub datum_of : Record RData → Datum
datum_of r = record { rdata = r.rdata; ttl = r.ttl }

-- whether a record has the data
abbrev pub is_data_of : Datum → Record RData → Bool
is_data_of d r = same_data d.rdata r.rdata

-- the key of a set
abbrev pub set_key : SetValue → RrKey
set_key s = key_of s.name s.record_type

-- the record of equal data in the place of a datum
abbrev pub renewed_datum : List (Record RData) → Datum → Datum
renewed_datum [] d = d
renewed_datum (r ∷ rs) d = if is_data_of d r then datum_of r else renewed_datum rs d

-- the records whose data is not among xs
abbrev pub others : List Datum → List (Record RData) → List Datum
others xs [] = []
others xs (r ∷ rs) = if list_any (λ d. is_data_of d r) xs then others xs rs else datum_of r
    ∷ others xs rs

-- equal data is replaced at its place, other data goes last in the set's order
abbrev pub merged : Zone → SetValue → Zone
merged z s =
    put z (set_key s)
    (map (renewed_datum s.records) (at z (set_key s)) ++ others (at z (set_key s)) s.records)

-- data equal to one of the set is gone
abbrev pub less_data : Zone → SetValue → Zone
less_data z s =
    put z (set_key s) (filter (λ d. not (list_any (is_data_of d) s.records)) (at z (set_key s)))

-- the key is gone
abbrev pub less_key : Zone → RrKey → Zone
less_key z k = put z k []

-- all keys of the owner are gone; at the origin SOA and NS stay
abbrev pub is_key_left : Zone → NameValue → RrKey → Bool
is_key_left z owner k = not (is_owned owner k) || is_guarded z owner k.record_type

-- the zone without the sets of an owner, but for those that stay
abbrev pub less_name : Zone → NameValue → Zone
less_name z owner = record z { sets = fin.retain_keys z.sets (is_key_left z owner) }

-- the same data as the set's, in any order, TTLs aside
abbrev pub has_data_of_set : Zone → SetValue → Bool
has_data_of_set z s =
    list_all (λ r. list_any (λ d. is_data_of d r) (at z (set_key s))) s.records
    && list_all (λ d. list_any (is_data_of d) s.records) (at z (set_key s))
