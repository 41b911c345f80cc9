-- The zone of a text: a fold over its entries and those of the texts that it includes (RFC 1035, 5.1).
use Rattle.std.specs.Option.{ok_or, unwrap_or}
use Rattle.std.specs.Prelude.{ℕ, Bool, zero, suc, true, false, if◌then◌else◌, List, [], ◌∷◌, Option, Some, None, Result}
use Rattle.std.specs.Prelude.{Ok, Err, codes, option_map}
use Rattle.base.specs.names.Labels.{NameValue}
use Rattle.base.specs.texts.NameOf.{name_of}
use Rattle.base.specs.RecordType.{type_from_text}
use Rattle.base.specs.texts.TextFaults.{Fault, bad_ttl, not_found, says, unknown_type}
use Rattle.base.specs.texts.TokenList.{whole_text}
use Rattle.base.specs.texts.Ttl.{ttl_of}
use Rattle.base.specs.declared.dns_class.DNSClass.{DNSClass}
use Rattle.base.specs.declared.dns_class.DNSClass.TheVariants as classes
use Rattle.base.specs.declared.record_type.RecordType.{RecordType}
use Rattle.base_data.specs.Generic.{any_data, any_type}
use Rattle.base_data.specs.Kinds.{data_of}
use Rattle.base_data.specs.declared.rdata.RData.{RData}
use Rattle.rr.specs.declared.record.Record.{Record}
use Rattle.txt.specs.Entries.{Body, Entry, Owner, PlacedEntry, Settings, Stop, at_origin, entries_of, fault_at}
use Rattle.txt.specs.Entries.{faulty_entry, include_entry, include_under, named, nothing, origin_entry, owner_line}
use Rattle.txt.specs.Entries.{refused, same, ttl_entry, typed, untyped, whole}
use Rattle.txt.specs.Places.{Position, fault_place, include_place, position}
use Rattle.txt.specs.ZoneSets.{ZoneSets, sets_with}

-- What is in force after an entry: the origin, the last stated owner, class and TTL (RFC 1035, 5.1), the default TTL
-- (RFC 2308, 4), a TTL that was stated and no record has yet; and the sets so far. Also whether types and data may
-- stand in the generic form (RFC 3597, 5), which no entry changes.
pub record ZoneState : Type 0 where
  pub generic : Bool
  pub origin : Option NameValue
  pub owner : Option NameValue
  pub dns_class : DNSClass
  pub pending : Option ℕ
  pub default_ttl : Option ℕ
  pub last_ttl : Option ℕ
  pub sets : ZoneSets

-- going on with what was made, or ending with its fault
infixl 10 ◌>>=◌
abbrev pub ◌>>=◌ : {A B E : Type 0} → Result A E → (A → Result B E) → Result B E
(Ok x) >>= f = f x
(Err e) >>= f = Err e

-- the name, absolute
abbrev pub absolute : NameValue → NameValue
absolute name = record name { absolute = true }

-- ---- a record

-- the type that a text in upper case names
abbrev pub type_named : List ℕ → Result RecordType Fault
type_named word = ok_or (type_from_text word) (unknown_type word)

-- the same, or where the generic form may stand, by its number too
abbrev pub type_in : ZoneState → List ℕ → Result RecordType Fault
type_in s word = if s.generic then ok_or (any_type word) (unknown_type word) else type_named word

-- the data of a type that items name under the origin in force, or where the generic form may stand, in that form too
abbrev pub data_in : ZoneState → RecordType → List (List ℕ) → Result RData Fault
data_in s type items = if s.generic then any_data type items s.origin
    else data_of type items s.origin

-- the owner in force
abbrev pub owner_in : ZoneState → Result NameValue Fault
owner_in s = ok_or s.owner (says (codes "record name not specified"))

-- the first of two, if there is one, else the other
abbrev pub else_of : Option ℕ → Option ℕ → Option ℕ
else_of None other = other
else_of (Some ttl) other = Some ttl

-- the pending TTL, else the default (RFC 2308, 4), else the last stated one (RFC 1035, 5.1)
abbrev pub ttl_in : ZoneState → Result ℕ Fault
ttl_in s =
    ok_or (else_of s.pending (else_of s.default_ttl s.last_ttl))
    (says (codes "record ttl not specified"))

-- the record of this data, with what is in force
abbrev pub record_of : ZoneState → RData → Result (Record RData) Fault
record_of s rdata =
    owner_in s >>= λ owner. ttl_in s >>= λ ttl.
    Ok (record {
      name = absolute owner;
      dns_class = s.dns_class;
      ttl = ttl;
      rdata = rdata;
      mdns_cache_flush = false;
    })

-- the sets with one more record
abbrev pub state_with : ZoneState → Record RData → Result ZoneState Fault
state_with s r = sets_with s.sets r >>= λ sets. Ok (record s { sets = sets })

-- the pending TTL becomes the last, and is used up
abbrev pub spent_by : ZoneState → Option ℕ → ZoneState
spent_by s None = s
spent_by s (Some ttl) = record s { pending = None; last_ttl = Some ttl }

-- the same of the TTL that is pending, if one is
abbrev pub spent : ZoneState → ZoneState
spent s = spent_by s s.pending

-- a record of this data is made, with what is in force
abbrev pub recorded : ZoneState → RData → Result ZoneState Fault
recorded s rdata = record_of s rdata >>= λ r. state_with s r >>= λ t. Ok (spent t)

-- ---- an entry

-- the fault that an entry ends with, if it ends with one
abbrev pub stopped : ZoneState → Stop → Result ZoneState Fault
stopped s whole = Ok s
stopped s (refused other) = Err (fault_at other)

-- what a line states is in force
abbrev pub settled : ZoneState → Settings → ZoneState
settled s settings = record s {
  pending = else_of settings.ttl s.pending;
  dns_class = unwrap_or settings.dns_class s.dns_class;
}

-- what stands after the settings: the type, the end of the line, the data, and then the record
abbrev pub carried : ZoneState → Body → Result ZoneState Fault
carried s (untyped stop) = stopped s stop
carried s (typed word items stop) =
    type_in s word >>= λ type. stopped s stop >>= λ t. data_in t type items
    >>= λ rdata. recorded t rdata

-- the owner of a line: a name, the origin, or the last owner
abbrev pub owned : ZoneState → Owner → Result ZoneState Fault
owned s same = Ok s
owned s at_origin = Ok (record s { owner = s.origin })
owned s (named text) = name_of text s.origin >>= λ name. Ok (record s { owner = Some name })

-- what an entry that opens no text makes of it
unfoldable pub apply : ZoneState → Entry → Result ZoneState Fault
apply s nothing = Ok s
apply s (origin_entry text) = name_of text None >>= λ name. Ok (record s { origin = Some name })
apply s (ttl_entry text) = ok_or (ttl_of text) bad_ttl
    >>= λ ttl. Ok (record s { default_ttl = Some ttl })
apply s (include_entry name) = Ok s
apply s include_under = Err (says (codes "Domain name for $INCLUDE is not supported"))
apply s (owner_line owner settings body) = owned s owner >>= λ t. carried (settled t settings) body
apply s (faulty_entry other) = Err (fault_at other)

-- ---- all entries

-- the texts that may be included, by their names
abbrev pub Texts : Type 0
Texts = List ℕ → Option (List ℕ)

-- no text may be included
abbrev pub no_texts : Texts
no_texts name = None

-- A fault, and where it stands: the texts that were opened on the way, each by its name and the line of that name in
-- the text before; and the place in the last of them.
pub record PlacedFault : Type 0 where
  pub fault : Fault
  pub opened : List (List ℕ × ℕ)
  pub position : Position

-- a fault at a place of the text that is read
abbrev pub fault_here : Position → Fault → PlacedFault
fault_here position fault = record { fault = fault; opened = []; position = position }

-- what was made, or its fault at the place of it
abbrev pub placed : {A : Type 0} → (Fault → Position) → Result A Fault → Result A PlacedFault
placed position_of (Ok a) = Ok a
placed position_of (Err fault) = Err (fault_here (position_of fault) fault)

-- what was made, or its fault without the place
abbrev pub unplaced : {A : Type 0} → Result A PlacedFault → Result A Fault
unplaced (Ok a) = Ok a
unplaced (Err found) = Err found.fault

-- what was made in a text of this name, which was opened on this line
abbrev pub made_within : {A : Type 0} → List ℕ × ℕ → Result A PlacedFault → Result A PlacedFault
made_within inclusion (Ok a) = Ok a
made_within inclusion (Err found) = Err (record found { opened = inclusion ∷ found.opened })

-- what an included text does, where its name stands at this place
abbrev pub Within : Type 0
Within = ZoneState → List ℕ → Position → Result ZoneState PlacedFault

-- what an entry of a text makes of it, where this says what an included text does
abbrev pub after_entry : Within → List ℕ → ZoneState → PlacedEntry → Result ZoneState PlacedFault
after_entry within text s (include_entry name, from) = within s name (position text (include_place from))
after_entry within text s (entry, from) =
    placed (λ fault. position text (fault_place fault from)) (apply s entry)

-- what entries of a text make of it, one after the other, or the first fault
unfoldable pub fold : Within → List ℕ → ZoneState → List PlacedEntry → Result ZoneState PlacedFault
fold within text s [] = Ok s
fold within text s (entry ∷ entries) =
    after_entry within text s entry >>= λ t. fold within text t entries

-- the includer's origin comes back: $INCLUDE never changes the origin of the parent text (RFC 1035, 5.1)
abbrev pub restored : Option NameValue → ZoneState → ZoneState
restored name s = record s { origin = name }

-- what an included text makes of it; a fault where there is no text of the name
abbrev pub opened_text : Within → ZoneState → List ℕ → Position → Option (List ℕ)
    → Result ZoneState PlacedFault
opened_text within s name place None = Err (fault_here place (not_found name))
opened_text within s name place (Some text) =
    made_within (name, place.line) (fold within text s (entries_of (whole_text text)))
    >>= λ t. Ok (restored s.origin t)

-- what an included text does, where `room` more texts may be open; the depth is tested before the text is looked up
unfoldable pub included : Texts → ℕ → Within
included texts zero s name place =
    Err (fault_here place (says (codes "Max depth level for nested $INCLUDE is reached")))
included texts (suc room) s name place = opened_text (included texts room) s name place (texts name)

-- how many texts may be open beside the first
abbrev pub max_depth : ℕ
max_depth = 256

-- what the entries of a text make of it, with those of the texts that it includes
unfoldable pub folded_text : Texts → ZoneState → List ℕ → Result ZoneState PlacedFault
folded_text texts s text = fold (included texts max_depth) text s (entries_of (whole_text text))

-- what is in force before the first entry; the origin is made absolute
abbrev pub beginning : Bool → Option NameValue → ZoneState
beginning generic name =
    record {
      generic = generic;
      origin = option_map absolute name;
      owner = None;
      dns_class = classes.IN;
      pending = None;
      default_ttl = None;
      last_ttl = None;
      sets = [];
    }

-- the origin and the sets; that there is an origin is tested last
abbrev pub answered : ZoneState → Result (NameValue × ZoneSets) Fault
answered s = ok_or s.origin (says (codes "$ORIGIN was not specified")) >>= λ name. Ok (name, s.sets)

-- the same where no fault was met; its own fault stands at the end of the text
abbrev pub parsed_of : List ℕ → Result ZoneState PlacedFault → Result (NameValue × ZoneSets) PlacedFault
parsed_of text made = made >>= λ s. placed (λ fault. position text 0) (answered s)

-- the zone of a text, where these texts may be included and an origin may be given, and the generic form may stand or
-- may not; or the first fault, with its place
abbrev pub placed_zone_by : Bool → Texts → Option NameValue → List ℕ
    → Result (NameValue × ZoneSets) PlacedFault
placed_zone_by generic texts origin text =
    parsed_of text (folded_text texts (beginning generic origin) text)

-- the same without the place
abbrev pub zone_by : Bool → Texts → Option NameValue → List ℕ
    → Result (NameValue × ZoneSets) Fault
zone_by generic texts origin text = unplaced (placed_zone_by generic texts origin text)

-- the zone of a text without the generic form
abbrev pub zone_of : Texts → Option NameValue → List ℕ → Result (NameValue × ZoneSets) Fault
zone_of = zone_by false

-- the zone of a text in which types and data may stand in the generic form (RFC 3597, 5)
abbrev pub generic_zone_of : Texts → Option NameValue → List ℕ
    → Result (NameValue × ZoneSets) Fault
generic_zone_of = zone_by true
