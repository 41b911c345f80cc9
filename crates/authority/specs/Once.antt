-- Records of which none stands twice.
use Rattle.base.specs.names.NameOrder.{same_name}
use Rattle.base.specs.declared.rr_key.RrKey.{RrKey}
use Rattle.base_data.specs.Kinds.{type_of_data}
use Rattle.base_data.specs.SameData.{same_data}
use Rattle.base_data.specs.declared.rdata.RData.{RData}
use Rattle.op_use.specs.Zone.{Datum, Zone, at}
use Rattle.rr.specs.declared.record.Record.{Record}
use Rattle.std.specs.List.{AllByRecursion, IsDistinct}
use Rattle.std.specs.Ordering.{on}
use Rattle.std.specs.Prelude.{Bool, List, ◌&&◌, ◌≡◌}

-- the same owner and the same data (RFC 2181, 5)
abbrev pub same_record : Record RData → Record RData → Bool
same_record r q = same_name r.name q.name && same_data r.rdata q.rdata

-- no two data under a key are equal, and each is of the key's type
abbrev pub IsProper : RrKey × List Datum → Type 0
IsProper e = IsDistinct (on (λ (d : Datum). d.rdata) same_data) e.1
    × AllByRecursion (λ (d : Datum). type_of_data d.rdata ≡ e.0.record_type) e.1

-- the data under each key of a zone is so
abbrev pub HasProperSets : Zone → Type 0
HasProperSets z = (k : RrKey) → IsProper (k, at z k)
