-- What the updates of the builders make of a map of record sets, where their bytes are read and applied.
use Rattle.std.specs.BTreeMap.{BTreeMap}
use Rattle.std.specs.Prelude.{Bool, List, map, ℕ, ◌≡◌}
use Rattle.base.specs.names.Labels.{NameValue}
use Rattle.base.specs.declared.dns_class.DNSClass.{DNSClass}
use Rattle.base.specs.declared.rr_key.RrKey.{RrKey}
use Rattle.base_data.specs.declared.rdata.RData.{RData}
use Rattle.op.specs.Cut.{IsCut, IsUncut}
use Rattle.op.specs.Message.{IsMessageAt, MessageValue}
use Rattle.op.specs.declared.response_code.ResponseCode.{ResponseCode}
use Rattle.op_use.specs.Applying.{IsApplied, IsZoneMap, applied, records_applied, zone_of_map}
use Rattle.op_use.specs.NamedChanges.{datum_of}
use Rattle.op_use.specs.Server.{Sections, sections_of}
use Rattle.op_use.specs.SoundSet.{IsSoundIn}
use Rattle.op_use.specs.UpdateMeaning.{MayAddTo, MayClearIn, MayDeleteIn, MaySwapIn, after_append, after_create}
use Rattle.op_use.specs.UpdateMeaning.{after_delete_all, after_delete_by_rdata, after_delete_rrset, after_swap}
use Rattle.op_use.specs.UpdateMessage.{append, compare_and_swap, create, delete_all, delete_by_rdata, delete_rrset}
use Rattle.op_use.specs.UpdateMessage.{update_message}
use Rattle.op_use.specs.Zone.{IsZone, Zone, at}
use Rattle.rr.specs.RecordSet.{SetValue}
use Rattle.rr.specs.declared.record.Record.{Record}

-- Of all uncut bytes of a message, under any limit, whatever message is read from them: what comes of a map, where that
-- is applied to it and its zone meets the premise, is this outcome.
abbrev pub AppliesUncut : MessageValue → (Zone → Type 0) → (Zone → ResponseCode × Zone) → Type 0
AppliesUncut m Premise outcome =
    (limit : ℕ) (B : List ℕ) (c : MessageValue) (k : IsCut m limit B c) → IsUncut k
    → (n : MessageValue) (e : ℕ) → IsMessageAt B 0 n e
    → (origin : NameValue) (class : DNSClass) (old new : BTreeMap RrKey SetValue)
    (code : ResponseCode) → IsZoneMap class old → Premise (zone_of_map origin class old)
    → IsApplied origin class (sections_of n) old code new
    → ◌≡◌ {A = ResponseCode × Zone} (code, zone_of_map origin class new)
    (outcome (zone_of_map origin class old))

-- a map to which updates may be applied is a zone
abbrev pub MapsAreZones : Type 0
MapsAreZones = (origin : NameValue) (class : DNSClass) (m : BTreeMap RrKey SetValue)
    → IsZoneMap class m → IsZone (zone_of_map origin class m)

-- the records that an update leaves under a key have the data that the zone has there then
abbrev pub RecordsHoldTheData : Type 0
RecordsHoldTheData = (z : Zone) (m : Sections) (k : RrKey) (xs : List (Record RData))
    → at z k ≡ map datum_of xs
    → at (applied z m).1 k ≡ map datum_of (records_applied z m k xs)

-- what comes of a map by what `create` builds
abbrev pub CreateApplies : Type 0
CreateApplies = (id : ℕ) (s : SetValue) (origin : NameValue) (use_edns : Bool)
    → AppliesUncut (update_message id use_edns (create s origin)) (MayAddTo origin s)
    (after_create s)

-- what comes of a map by what `append` builds
abbrev pub AppendApplies : Type 0
AppendApplies = (id : ℕ) (s : SetValue) (origin : NameValue) (must_exist use_edns : Bool)
    → AppliesUncut (update_message id use_edns (append s origin must_exist)) (MayAddTo origin s)
    (after_append s must_exist)

-- what comes of a map by what `compare_and_swap` builds
abbrev pub SwapApplies : Type 0
SwapApplies = (id : ℕ) (current new : SetValue) (origin : NameValue) (use_edns : Bool)
    → AppliesUncut (update_message id use_edns (compare_and_swap current new origin))
    (MaySwapIn origin current new) (after_swap current new)

-- what comes of a map by what `delete_by_rdata` builds
abbrev pub DeleteDataApplies : Type 0
DeleteDataApplies = (id : ℕ) (s : SetValue) (origin : NameValue) (use_edns : Bool)
    → AppliesUncut (update_message id use_edns (delete_by_rdata s origin))
    (λ z. IsSoundIn z origin s) (after_delete_by_rdata s)

-- what comes of a map by what `delete_rrset` builds
abbrev pub DeleteSetApplies : Type 0
DeleteSetApplies = (id : ℕ) (r : Record RData) (origin : NameValue) (use_edns : Bool)
    → AppliesUncut (update_message id use_edns (delete_rrset r origin)) (MayDeleteIn origin r)
    (after_delete_rrset r)

-- what comes of a map by what `delete_all` builds
abbrev pub DeleteNameApplies : Type 0
DeleteNameApplies = (id : ℕ) (owner origin : NameValue) (class : DNSClass) (use_edns : Bool)
    → AppliesUncut (update_message id use_edns (delete_all owner origin class))
    (MayClearIn origin owner class) (after_delete_all owner)
