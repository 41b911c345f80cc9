-- A set of a zone while the zone is updated.
use Rattle.op_use.specs.declared.apply.current_set.Held.TheVariants as held
use Rattle.op_use.specs.declared.apply.current_set.Held.{Held}
use Rattle.op_use.specs.declared.apply.current_set.OpenSet.TheVariants as opened
use Rattle.op_use.specs.declared.apply.current_set.OpenSet.{OpenSet}
use Rattle.base.specs.declared.dns_class.DNSClass.{DNSClass}
use Rattle.base_data.specs.declared.rdata.RData.{RData}
use Rattle.rr.specs.Record.{type_of_record}
use Rattle.rr.specs.RecordSet.{SetValue}
use Rattle.rr.specs.SetChanges.{joined, with_records}
use Rattle.rr.specs.declared.record.Record.{Record}
use Rattle.std.specs.Prelude.{None, Option, Some, []}

-- the set that may be changed
abbrev pub open_set : OpenSet → SetValue
open_set (opened.Few s) = s
open_set (opened.Many s) = s

-- the set, wherever it is
abbrev pub set_held : Held → SetValue
set_held (held.InZone s) = s.now
set_held (held.Beside s) = open_set s

-- the set of a record's key in a zone of a class, without records
abbrev pub set_without : DNSClass → Record RData → SetValue
set_without class r =
    record {
      name = r.name;
      record_type = type_of_record r;
      dns_class = class;
      ttl = 0;
      records = [];
      serial = 0;
    }

-- the set under a record's key with the record, in the place of equal data, or else last
abbrev pub renewed_set : DNSClass → Record RData → Option SetValue → SetValue
renewed_set class r (Some s) = with_records s (joined r s.records)
renewed_set class r None = with_records (set_without class r) (joined r [])
