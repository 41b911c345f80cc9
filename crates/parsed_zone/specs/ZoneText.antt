-- A zone as it is read of bytes, and the lines that it is written as.
use Rattle.std.specs.List.{flat_map}
use Rattle.std.specs.Prelude.{ℕ, List, ◌++◌, codes, if◌then◌else◌, Option, Result, Err}
use Rattle.std.specs.Str.{is_utf8}
use Rattle.base.specs.names.Labels.{NameValue}
use Rattle.base.specs.texts.NameText.{name_text}
use Rattle.base.specs.texts.TextFaults.{Fault}
use Rattle.base.specs.declared.rr_key.RrKey.{RrKey}
use Rattle.op.specs.MessageText.{line, record_lines}
use Rattle.rr.specs.RecordSet.{SetValue}
use Rattle.txt.specs.Zone.{Texts, generic_zone_of, no_texts, zone_of}
use Rattle.txt.specs.ZoneSets.{ZoneSets}
use Rattle.parsed_zone.specs.Faults.{ZoneFault, not_utf8, of_text}

-- the zone of a text that bytes are, or its fault
abbrev pub read_as_text : List ℕ → Result (NameValue × ZoneSets) Fault
    → Result (NameValue × ZoneSets) ZoneFault
read_as_text bytes zone = if is_utf8 bytes then of_text zone else Err not_utf8

-- the zone of the text that bytes are, under an origin, if there is one
abbrev pub zone_of_bytes : Texts → Option NameValue → List ℕ
    → Result (NameValue × ZoneSets) ZoneFault
zone_of_bytes texts origin bytes = read_as_text bytes (zone_of texts origin bytes)

-- the same of a text in which types and data may stand in the generic form (RFC 3597, 5), and which includes none
abbrev pub generic_zone_of_bytes : Option NameValue → List ℕ
    → Result (NameValue × ZoneSets) ZoneFault
generic_zone_of_bytes origin bytes = read_as_text bytes (generic_zone_of no_texts origin bytes)

-- the records of all sets, in the order of their keys, a line each
abbrev pub set_lines : ZoneSets → List ℕ
set_lines = flat_map (λ (e : RrKey × SetValue). record_lines e.1.records)

-- the line of an origin
abbrev pub origin_line : NameValue → List ℕ
origin_line origin = line (codes "$ORIGIN " ++ name_text origin)

-- the origin and the records of a zone
abbrev pub zone_lines : NameValue × ZoneSets → List ℕ
zone_lines zone = origin_line zone.0 ++ set_lines zone.1
