-- What the builders of updates are asked for, as texts, and what is sent.
use Rattle.base.specs.declared.limits.TheConstants.{MAX_MESSAGE}
use Rattle.std.specs.Prelude.{ℕ, Bool, List, [], ◌∷◌, ◌≡◌, if◌then◌else◌, length, Option, Some, None}
use Rattle.std.specs.Prelude.{Ok, Err, slice_get, true}
use Rattle.base.specs.names.Labels.{NameValue}
use Rattle.base.specs.texts.NameOf.{name_of}
use Rattle.base.specs.names.NameOrder.{is_zone_of, same_name}
use Rattle.base.specs.RecordType.{type_of}
use Rattle.base.specs.declared.dns_class.DNSClass.TheVariants as classes
use Rattle.base.specs.declared.record_type.RecordType.{RecordType}
use Rattle.op.specs.Cut.{IsCut, IsUncut}
use Rattle.op.specs.Fits.{Fits}
use Rattle.op.specs.Message.{IsMessageAt, MessageValue, message_at}
use Rattle.op.specs.MessageWritten.{message_answer}
use Rattle.op_use.specs.Server.{Sections}
use Rattle.op_use.specs.SoundSet.{IsSound, is_supported_type}
use Rattle.op_use.specs.UpdateMeaning.{AppendsToSet, CreatesSet, DeletesData, DeletesName, DeletesSet, SwapsSets}
use Rattle.op_use.specs.UpdateMessage.{append, compare_and_swap, create, delete_all, delete_by_rdata, delete_rrset}
use Rattle.op_use.specs.UpdateMessage.{empty_record, transfer_message, update_message}
use Rattle.base_data.specs.declared.rdata.RData.{RData}
use Rattle.base_data.specs.declared.rdata.RData.TheVariants as kinds
use Rattle.base_data.specs.declared.rdata.soa.SOA.{SOA}
use Rattle.rr.specs.RecordSet.{SetValue}
use Rattle.rr.specs.declared.record.Record.{Record}
use Rattle.txt.specs.ZoneSets.{ZoneSets}
use Rattle.parsed_zone.specs.Classes.{are_sets_in}
use Rattle.parsed_zone.specs.Faults.{numbered}
use Rattle.tasks.specs.Asked.{Asked, ◌>>=◌, written}
use Rattle.tasks.specs.Refusals.{not_on_wire, not_one_set, not_soa, other_class, other_type, outside, too_long}
use Rattle.tasks.specs.ZoneText.{characters, zone_name_of, zone_under}
use Rattle.tasks.specs.declared.update.built.Change.{Change}
use Rattle.tasks.specs.declared.update.built.Change.TheVariants as changes

-- ---- texts

-- sets of the class IN
abbrev pub in_class : ZoneSets → Asked ZoneSets
in_class sets = if are_sets_in sets then Ok sets else Err other_class

-- the set, if there is exactly one
abbrev pub only_set : ZoneSets → Asked SetValue
only_set [] = Err not_one_set
only_set (e ∷ []) = Ok e.1
only_set (e ∷ (next ∷ es)) = Err not_one_set

-- a set, if its owner lies in the zone of an origin
abbrev pub within : NameValue → SetValue → Asked SetValue
within origin set = if is_zone_of origin set.name then Ok set else Err outside

-- a type that updates can change
abbrev pub of_type : RecordType → Asked RecordType
of_type type = if is_supported_type type then Ok type else Err other_type

-- the one set of the class IN that zone text has, if its owner lies in the zone
abbrev pub one_set : NameValue → List ℕ → Asked SetValue
one_set origin text =
    zone_under (Some origin) text >>= λ zone. in_class zone.1 >>= λ sets. only_set sets
    >>= λ set. within origin set

-- that set, if updates can change its type
abbrev pub set_of_text : NameValue → List ℕ → Asked SetValue
set_of_text origin text = one_set origin text >>= λ set. of_type set.record_type >>= λ type. Ok set

-- the name of a text, if it lies in the zone; a relative one ends in the origin
abbrev pub owner_of_text : NameValue → List ℕ → Asked NameValue
owner_of_text origin text =
    characters text >>= λ chars. numbered (name_of chars (Some origin)) >>= λ owner.
    if is_zone_of origin owner then Ok owner else Err outside

-- the SOA that data is
abbrev pub soa_in_data : RData → Asked (Option SOA)
soa_in_data (kinds.SOA soa) = Ok (Some soa)
soa_in_data _ = Err not_soa

-- the SOA of a record that may be there
abbrev pub soa_of_record : Option (Record RData) → Asked (Option SOA)
soa_of_record (Some r) = soa_in_data r.rdata
soa_of_record None = Err not_soa

-- the SOA of a zone that zone text has as its one record; none of an empty text
abbrev pub soa_of_text : NameValue → List ℕ → Asked (Option SOA)
soa_of_text zone [] = Ok None
soa_of_text zone (b ∷ bs) = one_set zone (b ∷ bs) >>= λ set.
    if same_name set.name zone then soa_of_record (slice_get set.records 0) else Err not_soa

-- ---- messages

-- the message that is built of the name of a zone
abbrev pub asked_of : List ℕ → (NameValue → Asked MessageValue) → Asked MessageValue
asked_of origin build = zone_name_of origin >>= λ zone. build zone

-- the update of a zone of a name that is built of the set of a text
abbrev pub by_set : ℕ → Bool → (SetValue → NameValue → Sections) → List ℕ → NameValue
    → Asked MessageValue
by_set id use_edns build set zone = set_of_text zone set
    >>= λ s. Ok (update_message id use_edns (build s zone))

-- the update that puts a set in the place of another
abbrev pub by_sets : ℕ → Bool → List ℕ → List ℕ → NameValue → Asked MessageValue
by_sets id use_edns current next zone = set_of_text zone current
    >>= λ old. by_set id use_edns (compare_and_swap old) next zone

-- the update that a change asks for (RFC 2136, 2.4 and 2.5)
abbrev pub change_asked : ℕ → Bool → Change → NameValue → Asked MessageValue
change_asked id use_edns (changes.Create set) zone = by_set id use_edns create set.now zone
change_asked id use_edns (changes.Append set must_exist) zone =
    by_set id use_edns (λ s z. append s z must_exist) set.now zone
change_asked id use_edns (changes.CompareAndSwap current next) zone =
    by_sets id use_edns current.now next.now zone
change_asked id use_edns (changes.DeleteByRdata set) zone =
    by_set id use_edns delete_by_rdata set.now zone
change_asked id use_edns (changes.DeleteRrset owner number) zone =
    owner_of_text zone owner.now >>= λ name. of_type (type_of number) >>= λ type.
    Ok (update_message id use_edns (delete_rrset (empty_record name type classes.IN) zone))
change_asked id use_edns (changes.DeleteAll owner) zone =
    owner_of_text zone owner.now >>= λ name.
    Ok (update_message id use_edns (delete_all name zone classes.IN))

-- the update of the zone of an origin that a change asks for
abbrev pub update_asked : ℕ → Bool → List ℕ → Change → Asked MessageValue
update_asked id use_edns origin change = asked_of origin (change_asked id use_edns change)

-- the message that asks for a zone of a name (RFC 5936, 2.1), or for what changed since an SOA (RFC 1995, 3)
abbrev pub transfer_of : ℕ → List ℕ → NameValue → Asked MessageValue
transfer_of id last zone = soa_of_text zone last >>= λ soa. Ok (transfer_message id zone soa)

-- the same of the zone of an origin
abbrev pub transfer_asked : ℕ → List ℕ → List ℕ → Asked MessageValue
transfer_asked id origin last = asked_of origin (transfer_of id last)

-- ---- what is sent

-- B is what is written of all of a message, and is read, to its end, as the message.
pub record IsWhole (m : MessageValue) (B : List ℕ) : Type 0 where
  pub exact : message_answer MAX_MESSAGE m ≡ Ok B
  pub message : MessageValue
  pub is_cut : IsCut m MAX_MESSAGE B message
  pub uncut : IsUncut is_cut
  pub read : message_at B 0 ≡ Ok (message, length B)

-- What is written of a message has TC set: something is lost.
pub record IsCutShort (m : MessageValue) : Type 0 where
  pub bytes : List ℕ
  pub written : message_answer MAX_MESSAGE m ≡ Ok bytes
  pub message : MessageValue
  pub end : ℕ
  pub stands : IsMessageAt bytes 0 message end
  pub short : message.metadata.truncation ≡ true

-- What comes of the message that is asked for: the bytes of all of it, or why there are none.
pub data IsSent (asked : Asked MessageValue) : Asked (List ℕ) → Type 0 where
  refused : {number : ℕ} → asked ≡ Err number → IsSent asked (Err number)
  unfit : {m : MessageValue} → asked ≡ Ok m → ¬ Fits m → IsSent asked (Err not_on_wire)
  unwritten : {m : MessageValue} {number : ℕ} → asked ≡ Ok m
      → written (message_answer MAX_MESSAGE m) ≡ Err number → IsSent asked (Err number)
  cut : {m : MessageValue} → asked ≡ Ok m → IsCutShort m → IsSent asked (Err too_long)
  whole : {m : MessageValue} {bytes : List ℕ} → asked ≡ Ok m → IsWhole m bytes
      → IsSent asked (Ok bytes)

-- ---- what it means

-- the set of a text, which is sound
pub record IsSetOf (zone : NameValue) (text : List ℕ) (s : SetValue) : Type 0 where
  pub of_text : set_of_text zone text ≡ Ok s
  pub sound : IsSound s

-- What the update that a change asks for means to a server: as the builder of the same name has it.
abbrev pub Means : Change → NameValue → MessageValue → Type 0
Means (changes.Create set) zone m = (s : SetValue) × IsSetOf zone set.now s × CreatesSet s zone m
Means (changes.Append set must_exist) zone m =
    (s : SetValue) × IsSetOf zone set.now s × AppendsToSet s zone must_exist m
Means (changes.CompareAndSwap current next) zone m =
    (old : SetValue) × (new : SetValue) × IsSetOf zone current.now old × IsSetOf zone next.now new
    × SwapsSets old new zone m
Means (changes.DeleteByRdata set) zone m =
    (s : SetValue) × IsSetOf zone set.now s × DeletesData s zone m
Means (changes.DeleteRrset owner number) zone m =
    (name : NameValue) × (owner_of_text zone owner.now ≡ Ok name)
    × DeletesSet (empty_record name (type_of number) classes.IN) zone m
Means (changes.DeleteAll owner) zone m =
    (name : NameValue) × (owner_of_text zone owner.now ≡ Ok name) × DeletesName name zone classes.IN m

-- The bytes are all of the update of a zone that a change asks for, and this is what it means.
pub record IsUpdate (origin : List ℕ) (change : Change) (B : List ℕ) : Type 0 where
  pub zone : NameValue
  pub named : zone_name_of origin ≡ Ok zone
  pub message : MessageValue
  pub whole : IsWhole message B
  pub means : Means change zone message
