-- The lines of what an update makes of a zone.
use Rattle.std.specs.FinMap as fin
use Rattle.std.specs.List.{flat_map}
use Rattle.std.specs.Prelude.{Err, List, None, Ok, Option, Result, Some, [], if◌then◌else◌, ℕ, ◌++◌}
use Rattle.base.specs.names.Labels.{NameValue}
use Rattle.base.specs.declared.dns_class.DNSClass.TheVariants as classes
use Rattle.base.specs.declared.rr_key.RrKey.{RrKey}
use Rattle.base_data.specs.declared.rdata.RData.{RData}
use Rattle.op.specs.MessageText.{line, record_lines}
use Rattle.op.specs.ResponseCode.{code_name}
use Rattle.op.specs.declared.response_code.ResponseCode.{ResponseCode}
use Rattle.op_use.specs.Applying.{applied, records_applied, records_in, zone_of_sets}
use Rattle.op_use.specs.Server.{Sections}
use Rattle.op_use.specs.Zone.{Zone}
use Rattle.rr.specs.declared.record.Record.{Record}
use Rattle.txt.specs.ZoneSets.{ZoneSets, set_at}
use Rattle.parsed_zone.specs.Classes.{are_sets_in}
use Rattle.parsed_zone.specs.Faults.{ZoneFault, other_class}
use Rattle.parsed_zone.specs.ZoneText.{origin_line, zone_lines}

-- the name of a code, and nothing for one without a name, which no update is answered with
abbrev pub code_word : Option (List ℕ) → List ℕ
code_word None = []
code_word (Some name) = name

-- the code, and the origin and the records of a zone
abbrev pub update_lines : ResponseCode → NameValue × ZoneSets → List ℕ
update_lines code zone = line (code_word (code_name code)) ++ zone_lines zone

-- the zone of the class IN of an origin and its sets
abbrev pub zone_in : NameValue × ZoneSets → Zone
zone_in zone = zone_of_sets zone.0 classes.IN zone.1

-- the records that an update leaves under a key
abbrev pub left_under : Sections → NameValue × ZoneSets → RrKey → List (Record RData)
left_under m zone k = records_applied (zone_in zone) m k (records_in (set_at zone.1 k))

-- the code, the origin, and the records that an update leaves, in the order of their keys
abbrev pub applied_lines : Sections → NameValue × ZoneSets → List ℕ
applied_lines m zone =
    let outcome = applied (zone_in zone) m in
    line (code_word (code_name outcome.0))
    ++ (origin_line zone.0 ++ flat_map (λ k. record_lines (left_under m zone k)) (fin.keys outcome.1.sets))

-- the lines of what an update makes of a zone of the class IN
abbrev pub lines_after : Sections → NameValue × ZoneSets → Result (List ℕ) ZoneFault
lines_after m zone = if are_sets_in zone.1 then Ok (applied_lines m zone) else Err other_class
