-- Rows of what a server makes of updates of small zones: the codes that it answers, and the zone then (RFC 2136, 3).
use Rattle.std.specs.Prelude.{false, List, [], ◌∷◌, ◌≡◌, ℕ, codes, map, true}
use Rattle.std.specs.FinMap as fin
use Rattle.base.specs.names.Labels.{NameValue}
use Rattle.base.specs.RrKey.{key_of}
use Rattle.base.specs.declared.dns_class.DNSClass.{DNSClass}
use Rattle.base.specs.declared.dns_class.DNSClass.TheVariants as classes
use Rattle.base.specs.declared.record_type.RecordType.{RecordType}
use Rattle.base.specs.declared.record_type.RecordType.TheVariants as types
use Rattle.base.specs.declared.rr_key.RrKey.{RrKey}
use Rattle.base_data.specs.declared.rdata.RData.{RData}
use Rattle.base_data.specs.declared.rdata.RData.TheVariants as kinds
use Rattle.op.specs.declared.query.Query.{Query}
use Rattle.op.specs.declared.response_code.ResponseCode.{ResponseCode}
use Rattle.op.specs.declared.response_code.ResponseCode.TheVariants.{NoError, FormErr, NXDomain, YXDomain, YXRRSet}
use Rattle.op.specs.declared.response_code.ResponseCode.TheVariants.{NXRRSet, NotAuth, NotZone}
use Rattle.rr.specs.RecordSet.{SetValue}
use Rattle.rr.specs.declared.record.Record.{Record}
use Rattle.op_use.specs.Server.{Sections, serve}
use Rattle.op_use.specs.UpdateMessage.{compare_and_swap, create, delete_all, empty_record, sections}
use Rattle.op_use.specs.Zone.{Datum, Zone}

--- ---- names and data

-- the absolute name of labels
abbrev pub named : List (List ℕ) → NameValue
named labels = record { labels = labels; absolute = true }

-- the origin
abbrev pub example : NameValue
example = named (codes "example" ∷ [])

-- a name of the zone
abbrev pub www : NameValue
www = named (codes "www" ∷ codes "example" ∷ [])

-- the same name with capital letters
abbrev pub raised_www : NameValue
raised_www = named (codes "WWW" ∷ codes "example" ∷ [])

-- a name of the zone that nothing stands at
abbrev pub unused : NameValue
unused = named (codes "unused" ∷ codes "example" ∷ [])

-- a name outside the zone
abbrev pub elsewhere : NameValue
elsewhere = named (codes "www" ∷ codes "elsewhere" ∷ [])

-- the address 192.0.2.n
abbrev pub address : ℕ → RData
address n = kinds.A (record { octets = 192 ∷ 0 ∷ 2 ∷ n ∷ [] })

-- an MX of preference 10
abbrev pub mx_to : NameValue → RData
mx_to exchange = kinds.MX (record { preference = 10; exchange = exchange })

-- a CNAME
abbrev pub cname_to : NameValue → RData
cname_to name = kinds.CNAME (record { name = name })

-- an NS
abbrev pub ns_to : NameValue → RData
ns_to name = kinds.NS (record { name = name })

-- an SOA
abbrev pub soa : RData
soa = kinds.SOA
    (record {
      mname = www;
      rname = www;
      serial = 1;
      refresh = 7200;
      retry = 3600;
      expire = 1209600;
      minimum = 300;
    })

--- ---- zones

-- data with its TTL
abbrev pub lasting : ℕ → RData → Datum
lasting ttl rdata = record { rdata = rdata; ttl = ttl }

-- the address 192.0.2.n with its TTL
abbrev pub host : ℕ → ℕ → Datum
host ttl n = lasting ttl (address n)

-- the data of an owner and a type
abbrev pub OwnedData : Type 0
OwnedData = RrKey × List Datum

-- data under an owner and a type
abbrev pub entry : NameValue → RecordType → List Datum → OwnedData
entry owner type set = (key_of owner type, set)

-- the zone `example.` of the class IN with these entries
abbrev pub zone_with : List OwnedData → Zone
zone_with entries = record { origin = example; class = classes.IN; sets = fin.from_entries entries }

-- the zone of the codes: two addresses of `www.example.`
abbrev pub two_addresses : List OwnedData
two_addresses = entry www types.A (host 300 1 ∷ host 300 2 ∷ []) ∷ []

-- the SOA and the NS of the zone
abbrev pub origin_sets : List OwnedData
origin_sets = entry example types.SOA (lasting 300 soa ∷ [])
    ∷ entry example types.NS (lasting 300 (ns_to www) ∷ []) ∷ []

--- ---- updates

-- a record of a class
abbrev pub record_in : DNSClass → NameValue → ℕ → RData → Record RData
record_in class owner ttl rdata =
    record { name = owner; dns_class = class; ttl = ttl; rdata = rdata; mdns_cache_flush = false }

-- an update of `example.` with prerequisites alone
abbrev pub needs : List (Record RData) → Sections
needs prerequisites = sections example classes.IN prerequisites []

-- an update of `example.` without prerequisites
abbrev pub asks : List (Record RData) → Sections
asks updates = sections example classes.IN [] updates

-- the question that names a zone
abbrev pub question : NameValue → RecordType → DNSClass → Query
question name type class =
    record { name = name; query_type = type; query_class = class; mdns_unicast_response = false }

-- with these questions, and nothing else
abbrev pub questions : List Query → Sections
questions zones = record { zones = zones; prerequisites = []; updates = [] }

-- the update isn't done: the zone stays as it is, and this is the code
abbrev pub IsRefusedWith : List OwnedData → Sections → ResponseCode → Type 0
IsRefusedWith old m code = serve (zone_with old) m ≡ (code, zone_with old)

-- the same of the zone of two addresses; an update that is done and changes nothing has the code NoError
abbrev pub HasCode : Sections → ResponseCode → Type 0
HasCode m code = IsRefusedWith two_addresses m code

-- the update is done: this zone becomes that one
abbrev pub Becomes : List OwnedData → Sections → List OwnedData → Type 0
Becomes old m new = serve (zone_with old) m ≡ (NoError, zone_with new)

-- a set of addresses of `www.example.` with TTL 60
abbrev pub addresses : List ℕ → SetValue
addresses ns = record {
  name = www;
  record_type = types.A;
  dns_class = classes.IN;
  ttl = 60;
  records = map (λ (n : ℕ). record_in classes.IN www 60 (address n)) ns;
  serial = 0;
}

--- ---- rows

-- the zone section (3.1)
pub record ZoneSectionRows : Type 0 where
  pub none : HasCode (questions []) FormErr
  pub two : HasCode
      (questions
      (question example types.SOA classes.IN ∷ question example types.SOA classes.IN ∷ [])) FormErr
  pub no_soa : HasCode (questions (question example types.A classes.IN ∷ [])) FormErr
  pub other_zone : HasCode (questions (question elsewhere types.SOA classes.IN ∷ [])) NotAuth
  pub part_of_zone : HasCode (questions (question www types.SOA classes.IN ∷ [])) NotAuth
  pub other_class : HasCode (questions (question example types.SOA classes.CH ∷ [])) NotAuth
  -- the type is tested before the name
  pub type_first : HasCode (questions (question elsewhere types.A classes.IN ∷ [])) FormErr
  pub own_zone : HasCode
      (questions (question (named (codes "EXAMPLE" ∷ [])) types.SOA classes.IN ∷ [])) NoError

-- the prerequisites (3.2.5), in the order of the RFC
pub record PrerequisiteRows : Type 0 where
  pub ttl : HasCode (needs (record_in classes.ANY www 1 (kinds.Update0 types.A) ∷ [])) FormErr
  pub outside : HasCode (needs (empty_record elsewhere types.A classes.ANY ∷ [])) NotZone
  pub any_with_data : HasCode (needs (record_in classes.ANY www 0 (address 1) ∷ [])) FormErr
  pub name_unused : HasCode (needs (empty_record unused types.ANY classes.ANY ∷ [])) NXDomain
  pub name_used : HasCode (needs (empty_record www types.ANY classes.ANY ∷ [])) NoError
  pub set_missing : HasCode (needs (empty_record www types.MX classes.ANY ∷ [])) NXRRSet
  pub set_there : HasCode (needs (empty_record www types.A classes.ANY ∷ [])) NoError
  pub none_with_data : HasCode (needs (record_in classes.NONE www 0 (address 1) ∷ [])) FormErr
  pub no_name_but_used : HasCode (needs (empty_record www types.ANY classes.NONE ∷ [])) YXDomain
  pub no_name : HasCode (needs (empty_record unused types.ANY classes.NONE ∷ [])) NoError
  pub no_set_but_there : HasCode (needs (empty_record www types.A classes.NONE ∷ [])) YXRRSet
  pub no_set : HasCode (needs (empty_record www types.MX classes.NONE ∷ [])) NoError
  -- a set with just this data, in any order
  pub less : HasCode (needs (record_in classes.IN www 0 (address 1) ∷ [])) NXRRSet
  pub other : HasCode
      (needs (record_in classes.IN www 0 (address 1) ∷ record_in classes.IN www 0 (address 3) ∷ []))
      NXRRSet
  pub more : HasCode
      (needs (record_in classes.IN www 0 (address 1) ∷ record_in classes.IN www 0 (address 2)
      ∷ record_in classes.IN www 0 (address 3) ∷ [])) NXRRSet
  pub same : HasCode
      (needs (record_in classes.IN www 0 (address 2) ∷ record_in classes.IN www 0 (address 1) ∷ []))
      NoError
  pub other_class : HasCode (needs (empty_record www types.A classes.CH ∷ [])) FormErr
  -- the first that fails says the code
  pub first : HasCode
      (needs (empty_record www types.A classes.ANY ∷ empty_record www types.ANY classes.NONE
      ∷ empty_record www types.MX classes.ANY ∷ []))
      YXDomain

-- which of two tests that fail says the code: zone section, prerequisites and prescan in this order, and of a
-- prerequisite first its TTL, then its owner
pub record OrderRows : Type 0 where
  pub zone_section : HasCode
      (record {
        zones = question elsewhere types.SOA classes.IN ∷ [];
        prerequisites = empty_record www types.MX classes.ANY ∷ [];
        updates = [];
      }) NotAuth
  pub prerequisites : HasCode
      (sections example classes.IN (empty_record www types.MX classes.ANY ∷ [])
      (record_in classes.IN elsewhere 60 (address 3) ∷ [])) NXRRSet
  pub by_value : HasCode
      (sections example classes.IN (record_in classes.IN www 0 (address 1) ∷ [])
      (record_in classes.IN elsewhere 60 (address 3) ∷ [])) NXRRSet
  -- those by value come after all others
  pub by_value_last : HasCode
      (needs (record_in classes.IN www 0 (address 1) ∷ empty_record unused types.ANY classes.ANY
      ∷ [])) NXDomain
  pub ttl : HasCode (needs (record_in classes.ANY elsewhere 1 (address 1) ∷ [])) FormErr
  pub owner : HasCode (needs (record_in classes.ANY elsewhere 0 (address 1) ∷ [])) NotZone
  pub owner_of_an_update : HasCode (asks (record_in classes.NONE elsewhere 1 (address 1) ∷ []))
      NotZone

-- the prescan of the updates (3.4.1.3), in the order of the RFC
pub record PrescanRows : Type 0 where
  pub outside : HasCode (asks (record_in classes.IN elsewhere 60 (address 3) ∷ [])) NotZone
  pub add_any : HasCode (asks (empty_record www types.ANY classes.IN ∷ [])) FormErr
  pub add_meta : HasCode (asks (empty_record www types.AXFR classes.IN ∷ [])) FormErr
  pub any_with_ttl : HasCode
      (asks (record_in classes.ANY www 1 (kinds.Update0 types.A) ∷ [])) FormErr
  pub any_with_data : HasCode (asks (record_in classes.ANY www 0 (address 1) ∷ [])) FormErr
  pub any_meta : HasCode (asks (empty_record www types.AXFR classes.ANY ∷ [])) FormErr
  pub none_with_ttl : HasCode (asks (record_in classes.NONE www 1 (address 1) ∷ [])) FormErr
  pub none_any : HasCode (asks (empty_record www types.ANY classes.NONE ∷ [])) FormErr
  pub none_meta : HasCode (asks (empty_record www types.AXFR classes.NONE ∷ [])) FormErr
  pub other_class : HasCode (asks (record_in classes.CH www 60 (address 3) ∷ [])) FormErr
  -- an update that would do is not done before one that is refused
  pub nothing_before : HasCode
      (asks (record_in classes.IN www 60 (address 3) ∷ record_in classes.IN elsewhere 60 (address 3)
      ∷ [])) NotZone

-- what is added (3.4.2.2)
pub record AddRows : Type 0 where
  pub new_set : Becomes [] (asks (record_in classes.IN www 60 (address 1) ∷ []))
      (entry www types.A (host 60 1 ∷ []) ∷ [])
  pub new_data : Becomes (entry www types.A (host 300 1 ∷ []) ∷ [])
      (asks (record_in classes.IN www 60 (address 2) ∷ []))
      (entry www types.A (host 300 1 ∷ host 60 2 ∷ []) ∷ [])
  -- equal data is replaced at its place: its TTL, and the spelling of its names
  pub equal_data : Becomes two_addresses (asks (record_in classes.IN www 60 (address 1) ∷ []))
      (entry www types.A (host 60 1 ∷ host 300 2 ∷ []) ∷ [])
  pub equal_names : Becomes (entry www types.MX (lasting 300 (mx_to www) ∷ []) ∷ [])
      (asks (record_in classes.IN www 300 (mx_to raised_www) ∷ []))
      (entry www types.MX (lasting 300 (mx_to raised_www) ∷ []) ∷ [])
  -- an owner is the same in whatever case
  pub same_owner : Becomes two_addresses
      (asks (record_in classes.IN raised_www 300 (address 3) ∷ []))
      (entry www types.A (host 300 1 ∷ host 300 2 ∷ host 300 3 ∷ []) ∷ [])
  -- a name server of the zone comes beside the first
  pub other_ns : Becomes
      (entry example types.NS (lasting 300 (ns_to www) ∷ []) ∷ entry www types.A (host 300 1 ∷ [])
      ∷ [])
      (asks (record_in classes.IN example 60 (ns_to example) ∷ []))
      (entry example types.NS (lasting 300 (ns_to www) ∷ lasting 60 (ns_to example) ∷ [])
      ∷ entry www types.A (host 300 1 ∷ []) ∷ [])
  -- nothing stands beside a CNAME, and there is one
  pub beside_cname : Becomes (entry www types.CNAME (lasting 300 (cname_to example) ∷ []) ∷ [])
      (asks (record_in classes.IN www 60 (address 1) ∷ []))
      (entry www types.CNAME (lasting 300 (cname_to example) ∷ []) ∷ [])
  pub cname_beside : Becomes two_addresses
      (asks (record_in classes.IN www 60 (cname_to example) ∷ []))
      two_addresses
  pub other_cname : Becomes (entry www types.CNAME (lasting 300 (cname_to example) ∷ []) ∷ [])
      (asks (record_in classes.IN www 60 (cname_to unused) ∷ []))
      (entry www types.CNAME (lasting 60 (cname_to unused) ∷ []) ∷ [])

-- sets that go, of one type or of all (3.4.2.3)
pub record DeleteSetRows : Type 0 where
  pub one_type : Becomes
      (entry www types.A (host 300 1 ∷ host 300 2 ∷ [])
      ∷ entry www types.MX (lasting 300 (mx_to www) ∷ []) ∷ [])
      (asks (empty_record www types.A classes.ANY ∷ []))
      (entry www types.MX (lasting 300 (mx_to www) ∷ []) ∷ [])
  pub not_there : Becomes two_addresses (asks (empty_record www types.MX classes.ANY ∷ []))
      two_addresses
  pub all_types : Becomes
      (entry www types.A (host 300 1 ∷ []) ∷ entry www types.MX (lasting 300 (mx_to www) ∷ [])
      ∷ entry example types.A (host 300 7 ∷ []) ∷ [])
      (asks (empty_record www types.ANY classes.ANY ∷ []))
      (entry example types.A (host 300 7 ∷ []) ∷ [])
  -- SOA and NS stay at the origin, and an NS below it goes
  pub soa_stays : Becomes origin_sets (asks (empty_record example types.SOA classes.ANY ∷ []))
      origin_sets
  pub ns_stays : Becomes origin_sets (asks (empty_record example types.NS classes.ANY ∷ []))
      origin_sets
  pub both_stay : Becomes (entry example types.A (host 300 7 ∷ []) ∷ origin_sets)
      (asks (empty_record example types.ANY classes.ANY ∷ [])) origin_sets
  pub below : Becomes (entry www types.NS (lasting 300 (ns_to www) ∷ []) ∷ origin_sets)
      (asks (empty_record www types.NS classes.ANY ∷ [])) origin_sets

-- records that go (3.4.2.4)
pub record DeleteRecordRows : Type 0 where
  pub one : Becomes two_addresses (asks (record_in classes.NONE www 0 (address 2) ∷ []))
      (entry www types.A (host 300 1 ∷ []) ∷ [])
  pub last : Becomes (entry www types.A (host 300 1 ∷ []) ∷ [])
      (asks (record_in classes.NONE www 0 (address 1) ∷ [])) []
  pub not_there : Becomes two_addresses (asks (record_in classes.NONE www 0 (address 3) ∷ []))
      two_addresses
  -- an SOA stays, and so does the last NS of the origin
  pub soa_stays : Becomes origin_sets (asks (record_in classes.NONE example 0 soa ∷ [])) origin_sets
  pub last_ns_stays : Becomes origin_sets
      (asks (record_in classes.NONE example 0 (ns_to www) ∷ [])) origin_sets
  pub one_ns : Becomes
      (entry example types.NS (lasting 300 (ns_to www) ∷ lasting 300 (ns_to example) ∷ []) ∷ [])
      (asks (record_in classes.NONE example 0 (ns_to www) ∷ []))
      (entry example types.NS (lasting 300 (ns_to example) ∷ []) ∷ [])
  -- below the origin an SOA stays too, and the last NS goes
  pub soa_below_stays : Becomes (entry www types.SOA (lasting 300 soa ∷ []) ∷ [])
      (asks (record_in classes.NONE www 0 soa ∷ []))
      (entry www types.SOA (lasting 300 soa ∷ []) ∷ [])
  pub ns_below : Becomes (entry www types.NS (lasting 300 (ns_to www) ∷ []) ∷ origin_sets)
      (asks (record_in classes.NONE www 0 (ns_to www) ∷ [])) origin_sets
  -- updates are done in turn
  pub in_turn : Becomes (entry example types.NS (lasting 300 (ns_to www) ∷ []) ∷ [])
      (asks (record_in classes.IN example 300 (ns_to example)
      ∷ record_in classes.NONE example 0 (ns_to www) ∷ []))
      (entry example types.NS (lasting 300 (ns_to example) ∷ []) ∷ [])

-- what builders send
pub record BuilderRows : Type 0 where
  -- a set is swapped where it is there, whatever its TTL, and else isn't
  pub swapped : Becomes (entry www types.A (host 300 1 ∷ []) ∷ [])
      (compare_and_swap (addresses (1 ∷ [])) (addresses (1 ∷ 2 ∷ [])) example)
      (entry www types.A (host 60 1 ∷ host 60 2 ∷ []) ∷ [])
  pub not_swapped : IsRefusedWith (entry www types.A (host 300 9 ∷ []) ∷ [])
      (compare_and_swap (addresses (1 ∷ [])) (addresses (1 ∷ 2 ∷ [])) example) NXRRSet
  -- a set is made where there is none, and else isn't
  pub created : Becomes [] (create (addresses (1 ∷ [])) example)
      (entry www types.A (host 60 1 ∷ []) ∷ [])
  pub not_created : IsRefusedWith (entry www types.A (host 300 9 ∷ []) ∷ [])
      (create (addresses (1 ∷ [])) example) YXRRSet
  -- of the origin SOA and NS stay, and all else goes; other owners keep what they have
  pub cleared : Becomes
      (entry example types.A (host 300 7 ∷ []) ∷ entry www types.A (host 300 1 ∷ []) ∷ origin_sets)
      (delete_all example example classes.IN)
      (entry www types.A (host 300 1 ∷ []) ∷ origin_sets)
