-- What updates make of the records under a key, each as it is spelled (RFC 2136, 3.4.2).
use Rattle.base.specs.declared.rr_key.RrKey.{RrKey}
use Rattle.base_data.specs.declared.rdata.RData.{RData}
use Rattle.op_use.specs.Server.{StepCode, OfAny, OfNone, OfNothing, OfZone, Use, alone_or, is_kept_out, is_needed}
use Rattle.op_use.specs.Server.{update, use_of, goes_with, is_under}
use Rattle.op_use.specs.Zone.{Zone}
use Rattle.rr.specs.SetChanges.{joined, without}
use Rattle.rr.specs.declared.record.Record.{Record}
use Rattle.std.specs.Prelude.{List, None, Some, [], if◌then◌else◌, not, ◌&&◌, ◌∷◌}

-- the records of a set with one more, in the place of equal data, or else last
abbrev pub with_record : Record RData → List (Record RData) → List (Record RData)
with_record r xs = alone_or r r (joined r xs)

-- the records xs under a key k after an update of a zone
abbrev pub after_by : Use → Zone → Record RData → RrKey → List (Record RData) → List (Record RData)
after_by OfZone z r k xs = if not (is_kept_out z r) && is_under r k then with_record r xs else xs
after_by OfAny z r k xs = if goes_with z r k then [] else xs
after_by OfNone z r k xs = if not (is_needed z r) && is_under r k then without r xs else xs
after_by OfNothing z r k xs = xs

-- the records under a key after one update (RFC 2136, 3.4.2)
abbrev pub after_update : Zone → Record RData → RrKey → List (Record RData) → List (Record RData)
after_update z r k xs = after_by (use_of z.class r.dns_class) z r k xs

-- the records under a key after these updates, one after the other
abbrev pub records_after : Zone → List (Record RData) → RrKey → List (Record RData)
    → List (Record RData)
records_after z [] k xs = xs
records_after z (r ∷ rs) k xs = records_after (update z r) rs k (after_update z r k xs)

-- the records under a key after these updates, or as they were where the update has a fault
abbrev pub records_answered : Zone → List (Record RData) → StepCode → RrKey → List (Record RData)
    → List (Record RData)
records_answered z rs (Some code) k xs = xs
records_answered z rs None k xs = records_after z rs k xs
