-- What applying an update to zone text is asked for.
use Rattle.std.specs.FinMap as fin
use Rattle.std.specs.List.{list_any}
use Rattle.std.specs.Prelude.{Bool, Err, List, Ok, [], false, if◌then◌else◌, length, nat_le, not, true, ℕ, ◌&&◌}
use Rattle.base.specs.names.Labels.{NameValue}
use Rattle.base.specs.declared.record_type.RecordType.{RecordType}
use Rattle.base.specs.declared.record_type.RecordType.TheVariants as types
use Rattle.base.specs.declared.rr_key.RrKey.{RrKey}
use Rattle.base_data.specs.declared.rdata.RData.{RData}
use Rattle.op_use.specs.Applying.{applied}
use Rattle.op_use.specs.Server.{Sections, sections_of}
use Rattle.rr.specs.declared.record.Record.{Record}
use Rattle.parsed_zone.specs.Applied.{lines_after, left_under, zone_in}
use Rattle.parsed_zone.specs.Faults.{by_number}
use Rattle.txt.specs.ZoneSets.{ZoneSets}
use Rattle.tasks.specs.Asked.{Asked, ◌>>=◌}
use Rattle.tasks.specs.Message.{message_of}
use Rattle.tasks.specs.Refusals.{two_anames}
use Rattle.tasks.specs.ZoneText.{IsZoneText, zone_asked}

-- an update, and the zone of an origin with the sets of a text
abbrev pub UpdateOfZone : Type 0
UpdateOfZone = Sections × (NameValue × ZoneSets)

-- the update that the bytes begin with, and that zone
abbrev pub update_and_zone : List ℕ → List ℕ → List ℕ → Asked UpdateOfZone
update_and_zone update origin text =
    message_of update >>= λ m. zone_asked origin text [] [] >>= λ zone. Ok (sections_of m, zone)

-- the type ANAME, of which the text of a zone can say one record of an owner
abbrev pub is_aname : RecordType → Bool
is_aname types.ANAME = true
is_aname _ = false

-- whether records under a key are two of ANAME, or more
abbrev pub are_anames : RrKey → List (Record RData) → Bool
are_anames k rs = is_aname k.record_type && not (nat_le (length rs) 1)

-- whether an update leaves an owner with two ANAME records, or more
abbrev pub leaves_anames : UpdateOfZone → Bool
leaves_anames x = list_any (λ k. are_anames k (left_under x.0 x.1 k))
    (fin.keys (applied (zone_in x.1) x.0).1.sets)

-- the code and the zone then, a line each; 25 for another class than IN, and 33 where the text would be read otherwise
abbrev pub text_after : UpdateOfZone → Asked (List ℕ)
text_after x = by_number (lines_after x.0 x.1)
    >>= λ lines. if leaves_anames x then Err two_anames else Ok lines

-- what comes of the update
abbrev pub IsApplied : List ℕ → List ℕ → List ℕ → Asked (List ℕ) → Type 0
IsApplied update origin text = IsZoneText (λ (x : UpdateOfZone). x.1.1) text_after
    (update_and_zone update origin text)
