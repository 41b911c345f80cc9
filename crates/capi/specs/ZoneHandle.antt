-- What calls on a zone that a caller holds make and answer.
use Rattle.std.specs.List.{list_any}
use Rattle.std.specs.Prelude.{Err, List, None, Ok, Option, Result, Some, false, if◌then◌else◌, neg_ℤ, option_map, pos}
use Rattle.std.specs.Prelude.{Bool, [], true, ℕ, ℤ}
use Rattle.std.specs.Prelude.{◌≡◌, ◌⊎◌}
use Rattle.base.specs.RrKey.{key_of}
use Rattle.base.specs.names.Labels.{NameValue}
use Rattle.base.specs.declared.dns_class.DNSClass.TheVariants as classes
use Rattle.base.specs.declared.record_type.RecordType.TheVariants as types
use Rattle.base.specs.declared.rr_key.RrKey.{RrKey}
use Rattle.op.specs.Message.{MessageValue}
use Rattle.op.specs.ResponseCode.{code_number}
use Rattle.op.specs.declared.response_code.ResponseCode.{ResponseCode}
use Rattle.authority.specs.Sent.{sent}
use Rattle.authority.specs.declared.sending.Carrier.TheVariants as carriers
use Rattle.authority.specs.declared.sending.Carrier.{Carrier}
use Rattle.base.specs.ProtoError.{proto_number}
use Rattle.base.specs.declared.error.proto_error.ProtoError.{ProtoError}
use Rattle.op_use.specs.Applying.{HasSameSets, IsApplied, IsChangeTold, zone_of_map}
use Rattle.op_use.specs.RaisedSerial.{IsRaised}
use Rattle.op_use.specs.Server.{sections_of}
use Rattle.parsed_zone.specs.Classes.{are_sets_in}
use Rattle.parsed_zone.specs.ZoneText.{zone_lines}
use Rattle.rr.specs.RecordSet.{SetValue}
use Rattle.txt.specs.ZoneSets.{ZoneSets}
use Rattle.tasks.specs.Asked.{Asked}
use Rattle.tasks.specs.Applied.{are_anames}
use Rattle.tasks.specs.Message.{message_of}
use Rattle.tasks.specs.Refusals.{closed, no_soa, not_on_wire, other_class, two_anames}
use Rattle.tasks.specs.ZoneText.{FitsWire, IsZoneText, zone_asked}
use Rattle.tasks.specs.declared.included.Included.{Included}
use Rattle.tasks.specs.declared.refusal.Refusal.{Refusal}
use Rattle.capi.specs.Holding.{IsAlone, IsShared, zone_held, zone_in}
use Rattle.capi.specs.declared.zone_handle.held.HeldZone.{HeldZone}
use Rattle.capi.specs.declared.zone_handle.holding.Holding.{Holding}

-- a zone's origin and its sets
abbrev pub ZoneParts : Type 0
ZoneParts = NameValue × ZoneSets

-- those of a zone that is held
abbrev pub parts_of : HeldZone → ZoneParts
parts_of zone = (zone.origin, zone.sets.entries)

-- those of a zone that a handle holds
abbrev pub parts_in : Holding → Option ZoneParts
parts_in holding = option_map parts_of (zone_in holding)

-- ---- opening

-- What comes of a zone that is asked for: that zone, if it can stand on the wire and is of the class IN.
pub data IsHeld (asked : Asked ZoneParts) : Asked ZoneParts → Type 0 where
  refused : {number : ℕ} → asked ≡ Err number → IsHeld asked (Err number)
  unfit : {x : ZoneParts} → asked ≡ Ok x → ¬ FitsWire x.1 → IsHeld asked (Err not_on_wire)
  foreign : {x : ZoneParts} → asked ≡ Ok x → FitsWire x.1 → are_sets_in x.1 ≡ false
      → IsHeld asked (Err other_class)
  whole : {x : ZoneParts} → asked ≡ Ok x → FitsWire x.1 → are_sets_in x.1 ≡ true
      → IsHeld asked (Ok x)

-- the zone that was made, or the number of the refusal
abbrev pub parts_made : Result HeldZone Refusal → Asked ZoneParts
parts_made (Ok zone) = Ok (parts_of zone)
parts_made (Err refusal) = Err refusal.number

-- What was made comes of this origin and this text, which may include these; or memory ran out.
abbrev pub Opens : List ℕ → List ℕ → List Included → List ℕ → Result HeldZone Refusal → Type 0
Opens origin text included bytes made = IsHeld (zone_asked origin text included bytes) (parts_made made)
    ⊎ (parts_made made ≡ Err 3)

-- A handle holds this, and 0 is answered; or memory ran out, and it holds what it held.
abbrev pub IsOpenAt : Holding → Option Holding → Option Holding → ℤ → Type 0
IsOpenAt holding old new result = ((new ≡ Some holding) × (result ≡ pos 0))
    ⊎ ((new ≡ old) × (result ≡ neg_ℤ (pos 3)))

-- The handle alone holds the zone that was made, and 0 is answered; or it holds what it held, and a refusal is.
abbrev pub IsOpen : Asked ZoneParts → Option Holding → Option Holding → ℤ → Type 0
IsOpen (Ok parts) old new result =
    (option_map parts_of (zone_held new) ≡ Some parts) × IsAlone new × (result ≡ pos 0)
IsOpen (Err number) old new result = (new ≡ old) × (result ≡ neg_ℤ (pos number))

-- That is so of what comes of this origin and this text, which may include these, or memory ran out.
abbrev pub IsOpened : List ℕ → List ℕ → List Included → List ℕ → Option Holding → Option Holding → ℤ
    → Type 0
IsOpened origin text included bytes old new result =
    ((made : Asked ZoneParts) × IsHeld (zone_asked origin text included bytes) made × IsOpen made old new result)
    ⊎ IsOpen (Err 3) old new result

-- ---- updating

-- The zone is what a server makes of the update that the bytes begin with, the code is answered, and whether some set
-- is
-- another than it was.
pub record IsServed (update : List ℕ) (old new : HeldZone) (is_changed : Bool) (result : ℤ)
    : Type 0 where
  pub message : MessageValue
  pub read : message_of update ≡ Ok message
  pub code : ResponseCode
  pub applied : IsApplied old.origin classes.IN (sections_of message) old.sets code new.sets
  pub told : IsChangeTold is_changed old.sets new.sets
  pub is : result ≡ pos (code_number code)

-- Each set stays as it was; the bytes begin with no message, or memory ran out.
pub record IsSpared (update : List ℕ) (old new : HeldZone) (is_changed : Bool) (result : ℤ)
    : Type 0 where
  pub sets : HasSameSets old.sets new.sets
  pub told : is_changed ≡ false
  pub number : ℕ
  pub why : (number ≡ 3) ⊎ (message_of update ≡ Err number)
  pub is : result ≡ neg_ℤ (pos number)

-- One of both; and the origin stays in any case.
abbrev pub IsUpdated : List ℕ → HeldZone → HeldZone → Bool → ℤ → Type 0
IsUpdated update old new is_changed result = (new.origin ≡ old.origin)
    × (IsServed update old new is_changed result ⊎ IsSpared update old new is_changed result)

-- The zone of the handle is updated so; a closed handle stays closed, and says so.
abbrev pub IsUpdating : List ℕ → Option HeldZone → Option HeldZone → Bool → ℤ → Type 0
IsUpdating update None new is_changed result =
    (new ≡ None) × (is_changed ≡ false) × (result ≡ neg_ℤ (pos closed))
IsUpdating update (Some old) new is_changed result =
    (zone : HeldZone) × (new ≡ Some zone) × IsUpdated update old zone is_changed result

-- ---- raising the serial

-- the serial, or the refusal of a zone without one record as its SOA
abbrev pub serial_answered : Option ℕ → ℤ
serial_answered (Some serial) = pos serial
serial_answered None = neg_ℤ (pos no_soa)

-- The SOA's serial is raised, and answered; and the origin stays in any case.
abbrev pub IsRaisedIn : HeldZone → HeldZone → ℤ → Type 0
IsRaisedIn old new result = (new.origin ≡ old.origin)
    × ((serial : Option ℕ) × IsRaised (key_of old.origin types.SOA) old.sets new.sets serial
    × (result ≡ serial_answered serial))

-- The zone of the handle is raised so; a closed handle stays closed, and says so.
abbrev pub IsRaising : Option HeldZone → Option HeldZone → ℤ → Type 0
IsRaising None new result = (new ≡ None) × (result ≡ neg_ℤ (pos closed))
IsRaising (Some old) new result = (zone : HeldZone) × (new ≡ Some zone) × IsRaisedIn old zone result

-- That is so; or the zone is shared, memory ran out for a copy of it, and it stays.
abbrev pub IsRaisingHeld : Option Holding → Option Holding → ℤ → Type 0
IsRaisingHeld old new result = IsRaising (zone_held old) (zone_held new) result
    ⊎ (IsShared old × (zone_held new ≡ zone_held old) × (result ≡ neg_ℤ (pos 3)))

-- ---- sharing

-- Another handle holds the zone too, and 0 is answered; or it holds what it held: the handle is closed, or memory ran
-- out.
abbrev pub IsSharing : Option HeldZone → Option HeldZone → Option HeldZone → ℤ → Type 0
IsSharing None old new result = (new ≡ old) × (result ≡ neg_ℤ (pos closed))
IsSharing (Some zone) old new result = ((new ≡ Some zone) × (result ≡ pos 0))
    ⊎ ((new ≡ old) × (result ≡ neg_ℤ (pos 3)))

-- ---- answering

-- what carries an answer: a stream, or a datagram of so many bytes at most
abbrev pub carrier : ℕ → Bool → Carrier
carrier most by_stream = if by_stream then carriers.Stream else carriers.Datagram most

-- the bytes that are sent, none where nothing is
abbrev pub bytes_sent : Result (Option (List ℕ)) ProtoError → Asked (List ℕ)
bytes_sent (Ok (Some bytes)) = Ok bytes
bytes_sent (Ok None) = Ok []
bytes_sent (Err e) = Err (proto_number e)

-- what a server of a zone sends for the bytes that it received
abbrev pub answer_of : HeldZone → Carrier → List ℕ → Asked (List ℕ)
answer_of zone by received = bytes_sent (sent (zone_of_map zone.origin classes.IN zone.sets) by received)

-- the same of a handle, which may be closed
abbrev pub answer_asked : Option HeldZone → Carrier → List ℕ → Asked (List ℕ)
answer_asked None by received = Err closed
answer_asked (Some zone) by received = answer_of zone by received

-- ---- text

-- the lines of a zone, unless the text would be read otherwise
abbrev pub lines_of : ZoneParts → Asked (List ℕ)
lines_of x = if list_any (λ (e : RrKey × SetValue). are_anames e.0 e.1.records) x.1
    then Err two_anames else Ok (zone_lines x)

-- what comes of the text of a zone
abbrev pub IsTextOf : HeldZone → Asked (List ℕ) → Type 0
IsTextOf zone = IsZoneText (λ (x : ZoneParts). x.1) lines_of (Ok (parts_of zone))

-- the same of a handle, which may be closed
abbrev pub IsHeldText : Option HeldZone → Asked (List ℕ) → Type 0
IsHeldText None made = made ≡ Err closed
IsHeldText (Some zone) made = IsTextOf zone made
