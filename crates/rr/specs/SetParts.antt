-- The parts of a record set.
use Rattle.rr.specs.RecordSet.{SetValue}
use Rattle.rr.specs.declared.rr_set.RecordSetParts.{RecordSetParts}

-- the set of these parts
abbrev pub parts_value : RecordSetParts → SetValue
parts_value p =
    record {
      name = p.name;
      record_type = p.record_type;
      dns_class = p.dns_class;
      ttl = p.ttl;
      records = p.records.items;
      serial = p.serial;
    }
