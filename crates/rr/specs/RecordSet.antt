-- Record sets: the records of one owner and type (RFC 2181, 5).
use Rattle.std.specs.Prelude.{ℕ, Bool, true, false, List, [], ◌∷◌, ◌≡◌, ◌≤◌, nat_eq, length, map}
use Rattle.std.specs.List.{AllByRecursion, IsDistinct}
use Rattle.std.specs.Ordering.{on, eq_of_both}
use Rattle.std.specs.Cmp.{IsEquivalence, and_equiv, nat_eq_equiv, on_equiv}
use Rattle.std.specs.Cmp.Lexicographic.{pointwise}
use Rattle.std.proofs.lemmas.Cmp.{lists_equiv}
use Rattle.base.specs.names.Labels.{NameValue}
use Rattle.base.specs.names.NameOrder.{folded, same_name}
use Rattle.base.specs.names.NameOrderLaws.{same_by-equiv}
use Rattle.base.specs.RecordType.{same_type}
use Rattle.base.specs.contracts.record_type.RecordTypeEq.TheImpl.Laws.{laws-law as type_laws}
use Rattle.base.specs.declared.dns_class.DNSClass.{DNSClass}
use Rattle.base.specs.declared.dns_class.DNSClass.TheVariants as classes
use Rattle.base.specs.declared.record_type.RecordType.{RecordType}
use Rattle.base.specs.declared.record_type.RecordType.TheVariants as types
use Rattle.base_data.specs.Kinds.{type_of_data}
use Rattle.base_data.specs.SameData.{same_data}
use Rattle.base_data.specs.contracts.rdata.RDataEq.TheImpl.Laws.{laws-law as data_laws}
use Rattle.base_data.specs.declared.rdata.RData.{RData}
use Rattle.rr.specs.RecordOrder.{same_class, same_record}
use Rattle.rr.specs.RecordOrderLaws.{same_class-equiv, same_record-equiv}
use Rattle.rr.specs.declared.record.Record.{Record}

-- a set: its owner, type and class, its records in order, and the TTL and the serial of its last change
pub record SetValue : Type 0 where
  pub name : NameValue
  pub record_type : RecordType
  pub dns_class : DNSClass
  pub ttl : ℕ
  pub records : List (Record RData)
  pub serial : ℕ

-- the set without records in the class IN
abbrev pub empty_set : NameValue → RecordType → ℕ → ℕ → SetValue
empty_set name type ttl serial =
    record {
      name = name;
      record_type = type;
      dns_class = classes.IN;
      ttl = ttl;
      records = [];
      serial = serial;
    }

-- the set of one record
abbrev pub set_of : Record RData → SetValue
set_of r =
    record {
      name = r.name;
      record_type = type_of_data r.rdata;
      dns_class = r.dns_class;
      ttl = r.ttl;
      records = r ∷ [];
      serial = 0;
    }

-- a class for the set and each of its records
abbrev pub in_class : SetValue → DNSClass → SetValue
in_class set class =
    record set {
      dns_class = class;
      records = map (λ (r : Record RData). record r { dns_class = class }) set.records;
    }

-- a TTL for the set and each of its records
abbrev pub with_ttl : SetValue → ℕ → SetValue
with_ttl set ttl =
    record set {
      ttl = ttl;
      records = map (λ (r : Record RData). record r { ttl = ttl }) set.records;
    }

-- whether this is the type SOA
abbrev pub is_soa : RecordType → Bool
is_soa types.SOA = true
is_soa _ = false

-- whether this is the type NS
abbrev pub is_ns : RecordType → Bool
is_ns types.NS = true
is_ns _ = false

-- A tidy set: its records have its type, no two of them have equal data, and there is at most one SOA.
pub record IsTidy (set : SetValue) : Type 0 where
  pub own_type : AllByRecursion (λ (r : Record RData). type_of_data r.rdata ≡ set.record_type)
      set.records
  pub distinct : IsDistinct (on (λ (r : Record RData). r.rdata) same_data) set.records
  pub single : is_soa set.record_type ≡ true → length set.records ≤ 1

-- whether records of any data are equal
abbrev pub same_entry : Record RData → Record RData → Bool
same_entry = same_record same_data

-- being the same record of any data is an equivalence
pub same_entry-equiv : IsEquivalence same_entry
same_entry-equiv = same_record-equiv data_laws

-- whether sets are equal field by field, names, classes and records as those are
abbrev pub same_set : SetValue → SetValue → Bool
same_set =
    eq_of_both (on (λ s. s.name) same_name)
    (eq_of_both (on (λ s. s.record_type) same_type) (eq_of_both (on (λ s. s.dns_class) same_class)
    (eq_of_both (on (λ s. s.ttl) nat_eq)
    (eq_of_both (on (λ s. s.records) (pointwise same_entry)) (on (λ s. s.serial) nat_eq)))))

-- being the same set is an equivalence
pub same_set-equiv : IsEquivalence same_set
same_set-equiv =
    and_equiv (on_equiv (λ s. s.name) (same_by-equiv folded))
    (and_equiv (on_equiv (λ s. s.record_type) type_laws)
    (and_equiv (on_equiv (λ s. s.dns_class) same_class-equiv)
    (and_equiv (on_equiv (λ s. s.ttl) nat_eq_equiv)
    (and_equiv (on_equiv (λ s. s.records) (lists_equiv same_entry-equiv))
    (on_equiv (λ s. s.serial) nat_eq_equiv)))))
