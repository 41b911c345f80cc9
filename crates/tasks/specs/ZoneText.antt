-- What calls on zone text are asked for.
use Rattle.std.specs.List.{AllByRecursion}
use Rattle.std.specs.Map.{update, values_of}
use Rattle.std.specs.Prelude.{All, ℕ, List, [], ◌∷◌, ◌==◌, ◌≡◌, drop, if◌then◌else◌, length, take, Option, Some, None}
use Rattle.std.specs.Prelude.{Ok, Err}
use Rattle.std.specs.Prelude.{true}
use Rattle.std.specs.Str.{bytes_eq, is_utf8}
use Rattle.base.specs.names.Labels.{NameValue}
use Rattle.base.specs.texts.NameOf.{name_of}
use Rattle.rr.specs.Record.{FitsRecord}
use Rattle.rr.specs.RecordSet.{SetValue}
use Rattle.txt.specs.Zone.{Texts, generic_zone_of, no_texts}
use Rattle.txt.specs.ZoneSets.{ZoneSets}
use Rattle.parsed_zone.specs.Faults.{by_number, numbered}
use Rattle.parsed_zone.specs.ZoneText.{generic_zone_of_bytes, zone_lines}
use Rattle.tasks.specs.Asked.{Asked, ◌>>=◌}
use Rattle.tasks.specs.Refusals.{no_origin, not_on_wire, not_utf8}
use Rattle.tasks.specs.declared.included.Included.{Included}

-- a text of characters
abbrev pub characters : List ℕ → Asked (List ℕ)
characters text = if is_utf8 text then Ok text else Err not_utf8

-- These texts, and those that stand in bytes one after the other, each after its name, of so many bytes each. The last
-- of a name stands.
abbrev pub with_texts : Texts → List Included → List ℕ → Asked Texts
with_texts texts [] bytes = Ok texts
with_texts texts (first ∷ more) bytes =
    characters (take first.name_len bytes) >>= λ name.
    characters (take first.text_len (drop first.name_len bytes)) >>= λ text.
    with_texts (update bytes_eq texts name (Some text)) more
    (drop first.text_len (drop first.name_len bytes))

-- the name of a text
abbrev pub name_of_text : List ℕ → Asked NameValue
name_of_text text = characters text >>= λ chars. numbered (name_of chars None)

-- the name of a zone: the name of a text, as an absolute one
abbrev pub zone_name_of : List ℕ → Asked NameValue
zone_name_of text = if length text == 0 then Err no_origin else (
    name_of_text text >>= λ name. Ok (record name { absolute = true })
    )

-- the origin that a text names; none of an empty text
abbrev pub origin_of_text : List ℕ → Asked (Option NameValue)
origin_of_text [] = Ok None
origin_of_text (c ∷ cs) = name_of_text (c ∷ cs) >>= λ name. Ok (Some name)

-- the zone of a text under an origin, if there is one
abbrev pub zone_under : Option NameValue → List ℕ → Asked (NameValue × ZoneSets)
zone_under origin text = by_number (generic_zone_of_bytes origin text)

-- the zone of a text under the origin that a text names, if it does
abbrev pub zone_of_text : List ℕ → List ℕ → Asked (NameValue × ZoneSets)
zone_of_text origin text = origin_of_text origin >>= λ under. zone_under under text

-- the zone of the origin that a text names, with the sets of another text, which may include these
abbrev pub zone_asked : List ℕ → List ℕ → List Included → List ℕ → Asked (NameValue × ZoneSets)
zone_asked origin text included bytes =
    zone_name_of origin >>= λ zone. characters text >>= λ chars.
    with_texts no_texts included bytes >>= λ texts.
    numbered (generic_zone_of texts (Some zone) chars) >>= λ parsed. Ok (zone, parsed.1)

-- Each record of the sets can stand on the wire, so each name of its data is absolute (RFC 1035, 3.1 and 3.2.1).
abbrev pub FitsWire : ZoneSets → Type 0
FitsWire sets = AllByRecursion (λ (s : SetValue). All FitsRecord s.records) (values_of sets)

-- What comes of something asked for that has these sets and makes these lines: the lines, or why there are none.
pub data IsZoneText {A : Type 0} (sets : A → ZoneSets) (lines : A → Asked (List ℕ))
    (asked : Asked A) : Asked (List ℕ) → Type 0 where
  refused : {number : ℕ} → asked ≡ Err number → IsZoneText sets lines asked (Err number)
  unfit : {x : A} → asked ≡ Ok x → ¬ FitsWire (sets x)
      → IsZoneText sets lines asked (Err not_on_wire)
  written : {x : A} {made : Asked (List ℕ)} → asked ≡ Ok x → FitsWire (sets x) → lines x ≡ made
      → IsZoneText sets lines asked made

-- what comes of the zone of a text: its origin and its records, a line each
abbrev pub IsCanonical : List ℕ → List ℕ → Asked (List ℕ) → Type 0
IsCanonical origin text = IsZoneText (λ (zone : NameValue × ZoneSets). zone.1)
    (λ zone. Ok (zone_lines zone)) (zone_of_text origin text)
