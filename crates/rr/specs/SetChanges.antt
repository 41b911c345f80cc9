-- What goes into a record set, and what comes out (RFC 2136, 1.1.5, 3.4.2.2 and 3.4.2.4).
use Rattle.std.specs.Prelude.{ℕ, Bool, true, false, not, List, [], ◌∷◌, ◌++◌, ◌≡◌, ◌≤◌, ◌&&◌, ◌||◌, ◌⊎◌, nat_eq, nat_le}
use Rattle.std.specs.Prelude.{length, set, if◌then◌else◌, Option}
use Rattle.std.specs.List.{filter, find, fold, list_any}
use Rattle.base.specs.names.NameOrder.{same_name}
use Rattle.base.specs.declared.dns_class.DNSClass.TheVariants as classes
use Rattle.base.specs.declared.record_type.RecordType.{RecordType}
use Rattle.base.specs.declared.record_type.RecordType.TheVariants as types
use Rattle.base_data.specs.Kinds.{type_of_data}
use Rattle.base_data.specs.SameData.{same_data}
use Rattle.base_data.specs.declared.rdata.RData.{RData}
use Rattle.base_data.specs.declared.rdata.RData.TheVariants as kinds
use Rattle.rr.specs.RecordSet.{SetValue, is_ns, is_soa, same_entry}
use Rattle.rr.specs.SerialOrder.{is_greater}
use Rattle.rr.specs.declared.record.Record.{Record}

-- the types of which a set holds one record
abbrev pub holds_one : RecordType → Bool
holds_one types.SOA = true
holds_one types.CNAME = true
holds_one types.ANAME = true
holds_one _ = false

-- what a caller of `insert` owes: the set's owner and type, and at most one record where only one may stand
pub record MayEnter (set : SetValue) (r : Record RData) : Type 0 where
  pub owner : same_name set.name r.name ≡ true
  pub own_type : type_of_data r.rdata ≡ set.record_type
  pub single : holds_one set.record_type ≡ true → length set.records ≤ 1

-- what a caller of `add_rdata` and `new_record` owes
pub record MayAdd (set : SetValue) (rdata : RData) : Type 0 where
  pub own_type : type_of_data rdata ≡ set.record_type
  pub single : holds_one set.record_type ≡ true → length set.records ≤ 1

-- what a caller of `remove` owes: the set's owner, and its type or ANY
pub record MayLeave (set : SetValue) (r : Record RData) : Type 0 where
  pub owner : same_name set.name r.name ≡ true
  pub own_type : (type_of_data r.rdata ≡ set.record_type) ⊎ (type_of_data r.rdata ≡ types.ANY)

-- whether both are SOA data, the new one of a greater serial
abbrev pub is_later : RData → RData → Bool
is_later (kinds.SOA old) (kinds.SOA new) = is_greater old.serial new.serial
is_later _ _ = false

-- whether the first of these records stays in spite of a new SOA
abbrev pub stays : List (Record RData) → RData → Bool
stays [] new = false
stays (x ∷ xs) new = not (is_later x.rdata new)

-- whether a record has the data of r
abbrev pub has_data_of : Record RData → Record RData → Bool
has_data_of r x = same_data x.rdata r.rdata

-- the records without those that have the data of r
abbrev pub without : Record RData → List (Record RData) → List (Record RData)
without r xs = filter (λ x. not (has_data_of r x)) xs

-- r in the place of each record of equal data
abbrev pub replaced : Record RData → List (Record RData) → List (Record RData)
replaced r [] = []
replaced r (x ∷ xs) = (if has_data_of r x then r else x) ∷ replaced r xs

-- r in the place of each record of equal data, or after all where there is none
abbrev pub joined : Record RData → List (Record RData) → List (Record RData)
joined r xs = replaced r xs ++ (if list_any (has_data_of r) xs then [] else r ∷ [])

-- whether some record is equal to r and has its TTL
abbrev pub has_entry : Record RData → List (Record RData) → Bool
has_entry r xs = list_any (λ x. same_entry x r && nat_eq x.ttl r.ttl) xs

-- the records of a set of a type beside which a new one comes to stand: none where one may stand
abbrev pub beside : RecordType → List (Record RData) → List (Record RData)
beside type xs = if holds_one type then [] else xs

-- whether `insert` leaves the records of a set of a type as they are: an SOA stays where the new one isn't later, and
-- an equal record where the new one has its TTL
abbrev pub is_left : RecordType → List (Record RData) → Record RData → Bool
is_left type xs r = (is_soa type && stays xs r.rdata) || has_entry r (beside type xs)

-- whether r goes in among others, and the records then
abbrev pub entered : Record RData → List (Record RData) → Bool × List (Record RData)
entered r xs = if has_entry r xs then (false, xs) else (true, joined r xs)

-- The answer of `insert` and the set then. A change takes over the record's TTL, and the serial.
abbrev pub insert : SetValue → Record RData → ℕ → Bool × SetValue
insert set r serial =
    if is_left set.record_type set.records r then (false, set)
    else (
      true,
      record set {
        records = joined r (beside set.record_type set.records);
        ttl = r.ttl;
        serial = serial;
      },
    )

-- whether r goes into the records of a set of a type, and the records then
abbrev pub put_in_set : RecordType → Record RData → List (Record RData) → Bool × List (Record RData)
put_in_set type r xs = if is_left type xs r then (false, xs) else (true, joined r (beside type xs))

-- the record that a set makes of data: its name and its TTL, in the class IN
abbrev pub own_record : SetValue → RData → Record RData
own_record set rdata =
    record {
      name = set.name;
      dns_class = classes.IN;
      ttl = set.ttl;
      rdata = rdata;
      mdns_cache_flush = false;
    }

-- the answer of `add_rdata` and the set then
abbrev pub add_data : SetValue → RData → Bool × SetValue
add_data set rdata = insert set (own_record set rdata) 0

-- the first record of equal data
abbrev pub first_of : RData → List (Record RData) → Option (Record RData)
first_of rdata xs = find (λ x. same_data x.rdata rdata) xs

-- whether `remove` leaves the records of a type: an SOA, and the last name server
abbrev pub is_kept : SetValue → RecordType → Bool
is_kept set type = is_soa type || (is_ns type && nat_le (length set.records) 1)

-- the answer of `remove` and the set then
abbrev pub remove : SetValue → Record RData → ℕ → Bool × SetValue
remove set r serial =
    if is_kept set (type_of_data r.rdata) || not (list_any (has_data_of r) set.records)
    then (false, set)
    else (
      true,
      record set { records = without r set.records; serial = serial },
    )

-- records with others set at their places, one after the other
abbrev pub renewed : List (ℕ × Record RData) → List (Record RData) → List (Record RData)
renewed [] xs = xs
renewed (p ∷ ps) xs = renewed ps (set xs p.0 p.1)

-- ---- what updates of a zone make of a set

-- the TTL of the last of these records, 0 of none
abbrev pub last_ttl : List (Record RData) → ℕ
last_ttl rs = fold (λ ttl (r : Record RData). r.ttl) 0 rs

-- the set with these records and the TTL of the last
abbrev pub with_records : SetValue → List (Record RData) → SetValue
with_records s xs = record s { records = xs; ttl = last_ttl xs }

-- the set without the records that have the data of r; where none has, it stays as it is
abbrev pub without_data : Record RData → SetValue → SetValue
without_data r s =
    if list_any (has_data_of r) s.records then with_records s (without r s.records) else s
