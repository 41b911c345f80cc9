-- Premises of updates: sets that are sound and ordinary, that the wire carries, and that are of a zone.
use Rattle.std.specs.Prelude.{All, Bool, None, Option, Some, false, nat_le, not, true, ℕ, ◌&&◌, ◌<◌, ◌==◌, ◌||◌, ◌≡◌}
use Rattle.std.specs.List.{AllByRecursion, IsDistinct}
use Rattle.std.specs.Ordering.{on}
use Rattle.base.specs.names.Labels.{NameValue}
use Rattle.base.specs.names.NameOrder.{is_zone_of, same_name}
use Rattle.base_data.specs.Kinds.{type_of_data}
use Rattle.base_data.specs.declared.rdata.RData.{RData}
use Rattle.base_data.specs.declared.rdata.soa.SOA.{SOA}
use Rattle.base.specs.RecordType.{type_number, type_of}
use Rattle.base.specs.declared.record_type.RecordType.{RecordType}
use Rattle.base.specs.declared.record_type.RecordType.TheVariants as types
use Rattle.base.specs.declared.dns_class.DNSClass.{DNSClass}
use Rattle.base.specs.declared.dns_class.DNSClass.TheVariants as classes
use Rattle.rr.specs.declared.record.Record.{Record}
use Rattle.base.specs.RrKey.{key_of}
use Rattle.rr.specs.RecordSet.{SetValue, is_ns}
use Rattle.base_data.specs.SameData.{same_data}
use Rattle.op_use.specs.Server.{is_cname}
use Rattle.op_use.specs.Zone.{IsZone, Zone, has_set}
use Rattle.base.specs.DNSClass.{class_number, class_of}
use Rattle.rr.specs.Record.{FitsRecord}

-- a class of records, as opposed to those that updates give a meaning of their own
abbrev pub is_plain_class : DNSClass → Bool
is_plain_class classes.ANY = false
is_plain_class classes.NONE = false
is_plain_class _ = true

-- the numbers of types that updates treat alike: not 0, NS, CNAME, SOA, WKS, SIG, OPT, nor query and meta types
abbrev pub is_ordinary_number : ℕ → Bool
is_ordinary_number n =
    not (n == 0 || n == 2 || n == 5 || n == 6 || n == 11 || n == 24 || n == 41
    || (nat_le 128 n && nat_le n 255))

-- a type that updates treat like most
abbrev pub is_ordinary : RecordType → Bool
is_ordinary type = is_ordinary_number (type_number type)

-- whether updates of records of a type are supported: of an ordinary one, NS or CNAME
abbrev pub is_supported_type : RecordType → Bool
is_supported_type type = is_ordinary type || is_ns type || is_cname type

-- A sound set: its records have its owner, type and class, which is none that updates give a meaning of their own, and
-- no two of them have equal data.
pub record IsSound (s : SetValue) : Type 0 where
  pub own_owner : AllByRecursion (λ (r : Record RData). same_name r.name s.name ≡ true) s.records
  pub own_type : AllByRecursion (λ (r : Record RData). type_of_data r.rdata ≡ s.record_type)
      s.records
  pub own_class : AllByRecursion (λ (r : Record RData). r.dns_class ≡ s.dns_class) s.records
  pub class : is_plain_class s.dns_class ≡ true
  pub distinct : IsDistinct (on (λ (r : Record RData). r.rdata) same_data) s.records

-- the zone is that of an update with this origin and class, at this owner
pub record IsFor (z : Zone) (named owner : NameValue) (of_class : DNSClass) : Type 0 where
  pub same_origin : same_name named z.origin ≡ true
  pub same_class : z.class ≡ of_class
  pub within : is_zone_of named owner ≡ true

-- what an update with a set needs: a zone of its origin and class, and a sound set of an ordinary type within it
pub record IsSoundIn (z : Zone) (named : NameValue) (s : SetValue) : Type 0 where
  pub zone : IsZone z
  pub sound : IsSound s
  pub ordinary : is_ordinary s.record_type ≡ true
  pub place : IsFor z named s.name s.dns_class

-- the owner has no CNAME, beside which nothing else may stand (RFC 1034, 3.6.2)
abbrev pub NoCname : Zone → NameValue → Type 0
NoCname z owner = has_set z (key_of owner types.CNAME) ≡ false

-- a class that is that of its number and leaves the top bit free
pub record IsSentClass (c : DNSClass) : Type 0 where
  pub reads : class_of (class_number c) ≡ c
  pub narrow : class_number c < 32768

-- a set whose records can stand on the wire
pub record IsSent (s : SetValue) : Type 0 where
  pub absolute : s.name.absolute ≡ true
  pub type_reads : type_of (type_number s.record_type) ≡ s.record_type
  pub class : IsSentClass s.dns_class
  pub records : All FitsRecord s.records

-- a set that can be sent in an update of a zone of this origin
pub record IsSendable (origin : NameValue) (s : SetValue) : Type 0 where
  pub rooted : origin.absolute ≡ true
  pub sound : IsSound s
  pub supported : is_supported_type s.record_type ≡ true
  pub sent : IsSent s

-- an owner, a type and a class that can be sent so
pub record IsSendableKey (origin owner : NameValue) (type : RecordType)
    (class : DNSClass) : Type 0 where
  pub rooted : origin.absolute ≡ true
  pub owned : owner.absolute ≡ true
  pub supported : is_supported_type type ≡ true
  pub type_reads : type_of (type_number type) ≡ type
  pub sent_class : IsSentClass class

-- an owner and a class that can be sent so
pub record IsSendableOwner (origin owner : NameValue) (class : DNSClass) : Type 0 where
  pub rooted : origin.absolute ≡ true
  pub owned : owner.absolute ≡ true
  pub sent_class : IsSentClass class

-- an SOA that a question for what changed since then can be sent with, if there is one (RFC 1995, 3)
abbrev pub IsSendableSoa : Option SOA → Type 0
IsSendableSoa None = Unit {0}
IsSendableSoa (Some soa) = (soa.mname.absolute ≡ true) × (soa.rname.absolute ≡ true)
