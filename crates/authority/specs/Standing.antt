-- Where the data of an answer stands (RFC 1034, 4.3.2, 3; RFC 4592, 3.3.2).
use Rattle.authority.specs.Lookup.{source}
use Rattle.base.specs.names.Labels.{NameValue}
use Rattle.base.specs.declared.rr_key.RrKey.{RrKey}
use Rattle.base_data.specs.declared.rdata.RData.{RData}
use Rattle.op_use.specs.Zone.{Datum, Zone, is_owned}
use Rattle.rr.specs.declared.record.Record.{Record}
use Rattle.std.specs.FinMap as fin
use Rattle.std.specs.List.{Contains}
use Rattle.std.specs.Prelude.{List, Some, true, ◌≡◌}

-- The data of a record stands in a set of the zone: of its owner, where that exists, and else of the asterisk below its
-- closest encloser.
pub record StandsInZone (z : Zone) (r : Record RData) : Type 0 where
  pub from : NameValue
  pub is_source : source z r.name ≡ Some from
  pub set : RrKey × List Datum
  pub stands : Contains (fin.entries z.sets) set
  pub is_of_source : is_owned from set.0 ≡ true
  pub datum : Datum
  pub is_there : Contains set.1 datum
  pub same : r.rdata ≡ datum.rdata
