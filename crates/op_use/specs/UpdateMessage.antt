-- The messages that ask for an update, and their sections (RFC 2136, 2).
use Rattle.std.specs.Prelude.{Bool, List, None, Option, Some, [], false, true, map, if◌then◌else◌, ℕ, ◌++◌, ◌∷◌}
use Rattle.base.specs.names.Labels.{NameValue}
use Rattle.base_data.specs.Kinds.{type_of_data}
use Rattle.base_data.specs.declared.rdata.RData.{RData}
use Rattle.base_data.specs.declared.rdata.RData.TheVariants as rdata
use Rattle.base.specs.declared.record_type.RecordType.{RecordType}
use Rattle.base.specs.declared.record_type.RecordType.TheVariants as types
use Rattle.base.specs.declared.dns_class.DNSClass.{DNSClass}
use Rattle.base.specs.declared.dns_class.DNSClass.TheVariants as classes
use Rattle.rr.specs.declared.record.Record.{Record}
use Rattle.rr.specs.RecordSet.{SetValue}
use Rattle.op_use.specs.Server.{Sections}
use Rattle.std.specs.Option.{option_map}
use Rattle.base_data.specs.declared.rdata.soa.SOA.{SOA}
use Rattle.op.specs.Edns.{new_edns}
use Rattle.op.specs.Fits.{as_list}
use Rattle.op.specs.Message.{MessageValue}
use Rattle.op.specs.Metadata.{plain_metadata}
use Rattle.op.specs.declared.edns.Edns.{Edns}
use Rattle.op.specs.declared.header.message_type.MessageType.TheVariants as message_types
use Rattle.op.specs.declared.op_code.OpCode.TheVariants as op_codes

-- a record without data
abbrev pub empty_record : NameValue → RecordType → DNSClass → Record RData
empty_record owner type class =
    record {
      name = owner;
      dns_class = class;
      ttl = 0;
      rdata = rdata.Update0 type;
      mdns_cache_flush = false;
    }

-- a record in another class, with TTL 0
abbrev pub untimed_in : DNSClass → Record RData → Record RData
untimed_in class r = record r { dns_class = class; ttl = 0 }

-- the record without its data, in class ANY, with TTL 0 (RFC 2136, 2.5.2)
abbrev pub emptied : Record RData → Record RData
emptied r =
    record r { dns_class = classes.ANY; ttl = 0; rdata = rdata.Update0 (type_of_data r.rdata) }

-- a record with TTL 0
abbrev pub without_ttl : Record RData → Record RData
without_ttl r = record r { ttl = 0 }

-- the zone's question, prerequisites and updates (RFC 2136, 2.3 to 2.5)
abbrev pub sections : NameValue → DNSClass → List (Record RData) → List (Record RData) → Sections
sections origin class prerequisites updates = record {
  zones = record {
    name = origin;
    query_type = types.SOA;
    query_class = class;
    mdns_unicast_response = false;
  } ∷ [];
  prerequisites = prerequisites;
  updates = updates;
}

-- the set must not exist (RFC 2136, 2.4.3), and is added (2.5.1)
abbrev pub create : SetValue → NameValue → Sections
create s origin =
    sections origin s.dns_class (empty_record s.name s.record_type classes.NONE ∷ []) s.records

-- the set must exist where that is asked for (RFC 2136, 2.4.1), and the records are added (2.5.1)
abbrev pub append : SetValue → NameValue → Bool → Sections
append s origin must_exist =
    sections origin s.dns_class
    (if must_exist then empty_record s.name s.record_type classes.ANY ∷ [] else []) s.records

-- the current data must be there (RFC 2136, 2.4.2), goes (2.5.4), and the new is added (2.5.1)
abbrev pub compare_and_swap : SetValue → SetValue → NameValue → Sections
compare_and_swap current new origin =
    sections origin new.dns_class (map without_ttl current.records)
    (map (untimed_in classes.NONE) current.records ++ new.records)

-- the data goes (RFC 2136, 2.5.4)
abbrev pub delete_by_rdata : SetValue → NameValue → Sections
delete_by_rdata s origin = sections origin s.dns_class [] (map (untimed_in classes.NONE) s.records)

-- the set of the record goes (RFC 2136, 2.5.2)
abbrev pub delete_rrset : Record RData → NameValue → Sections
delete_rrset r origin = sections origin r.dns_class [] (emptied r ∷ [])

-- all sets of the owner go (RFC 2136, 2.5.3)
abbrev pub delete_all : NameValue → NameValue → DNSClass → Sections
delete_all owner origin class =
    sections origin class [] (empty_record owner types.ANY classes.ANY ∷ [])

-- EDNS of an update: 1232 bytes are taken
abbrev pub update_edns : Bool → Option Edns
update_edns use_edns = if use_edns then Some (record new_edns { max_payload = 1232 }) else None

-- the message that sends sections
abbrev pub update_message : ℕ → Bool → Sections → MessageValue
update_message id use_edns m = record {
  metadata = plain_metadata id message_types.Query op_codes.Update;
  queries = m.zones;
  answers = m.prerequisites;
  authorities = m.updates;
  additionals = [];
  edns = update_edns use_edns;
  signature = None;
}

-- all of a zone, or what changed
abbrev pub transfer_type : Option SOA → RecordType
transfer_type None = types.AXFR
transfer_type (Some soa) = types.IXFR

-- the SOA record of this owner, with TTL 0
abbrev pub soa_record : NameValue → SOA → Record RData
soa_record origin soa =
    record {
      name = origin;
      dns_class = classes.IN;
      ttl = 0;
      rdata = rdata.SOA soa;
      mdns_cache_flush = false;
    }

-- The question for a transfer of a zone: of all of it (RFC 5936, 2.1), or of what changed since an SOA (RFC 1995, 3).
abbrev pub transfer_message : ℕ → NameValue → Option SOA → MessageValue
transfer_message id origin last_soa = record {
  metadata = plain_metadata id message_types.Query op_codes.Query;
  queries =
      record {
        name = origin;
        query_type = transfer_type last_soa;
        query_class = classes.IN;
        mdns_unicast_response = false;
      } ∷ [];
  answers = [];
  authorities = as_list (option_map (soa_record origin) last_soa);
  additionals = [];
  edns = update_edns true;
  signature = None;
}
