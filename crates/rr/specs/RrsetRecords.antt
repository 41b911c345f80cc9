-- The records of a set, one by one.
use Rattle.std.specs.Prelude.{Bool, true, false, List, []}
use Rattle.std.specs.Slice.Iter.{iter_rest}
use Rattle.base_data.specs.declared.rdata.RData.{RData}
use Rattle.rr.specs.declared.record.Record.{Record}
use Rattle.rr.specs.declared.rr_set.RrsetRecords.{RrsetRecords}
use Rattle.rr.specs.declared.rr_set.RrsetRecords.TheVariants as forms

-- the records that are left
abbrev pub records_left : RrsetRecords → List (Record RData)
records_left forms.Empty = []
records_left (forms.RecordsOnly iter) = iter_rest iter

-- whether it is that of a set without records
abbrev pub is_of_empty : RrsetRecords → Bool
is_of_empty forms.Empty = true
is_of_empty (forms.RecordsOnly iter) = false
