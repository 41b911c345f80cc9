-- What the updates of the builders mean: what a server makes of a zone by what it reads from their bytes (RFC 2136, 3).
use Rattle.std.specs.Prelude.{Bool, List, [], not, true, ℕ, ◌&&◌, ◌≡◌, ◌≢◌, if◌then◌else◌}
use Rattle.base.specs.names.Labels.{NameValue}
use Rattle.base.specs.RrKey.{key_of}
use Rattle.base.specs.declared.dns_class.DNSClass.{DNSClass}
use Rattle.base_data.specs.Kinds.{type_of_data}
use Rattle.base_data.specs.declared.rdata.RData.{RData}
use Rattle.rr.specs.RecordSet.{SetValue}
use Rattle.rr.specs.declared.record.Record.{Record}
use Rattle.op.specs.Cut.{IsCut, IsUncut}
use Rattle.op.specs.Message.{IsMessageAt, MessageValue}
use Rattle.op.specs.declared.response_code.ResponseCode.{ResponseCode}
use Rattle.op.specs.declared.response_code.ResponseCode.TheVariants.{NoError, YXRRSet, NXRRSet}
use Rattle.op_use.specs.NamedChanges.{has_data_of_set, less_data, less_key, less_name, merged, set_key}
use Rattle.op_use.specs.Server.{sections_of, serve}
use Rattle.op_use.specs.SoundSet.{IsFor, IsSoundIn, NoCname, is_ordinary, is_plain_class}
use Rattle.op_use.specs.Zone.{IsZone, Zone, has_set}

-- Of all uncut bytes of a message, under any limit, whatever message is read from them: of each zone that meets the
-- premise a server makes this outcome.
abbrev pub MeansUncut : MessageValue → (Zone → Type 0) → (Zone → ResponseCode × Zone) → Type 0
MeansUncut m Premise outcome =
    (limit : ℕ) (B : List ℕ) (c : MessageValue) (k : IsCut m limit B c) → IsUncut k
    → (n : MessageValue) (e : ℕ) → IsMessageAt B 0 n e
    → (z : Zone) → Premise z → serve z (sections_of n) ≡ outcome z

-- a zone to which a set may be added
abbrev pub MayAddTo : NameValue → SetValue → Zone → Type 0
MayAddTo origin s z = IsSoundIn z origin s × NoCname z s.name

-- one in which a set may be put in the place of another
abbrev pub MaySwapIn : NameValue → SetValue → SetValue → Zone → Type 0
MaySwapIn origin current new z =
    (current.records ≢ []) × IsSoundIn z origin current × MayAddTo origin new z

-- one from which the set of a record may be taken
abbrev pub MayDeleteIn : NameValue → Record RData → Zone → Type 0
MayDeleteIn origin r z = IsZone z × IsFor z origin r.name r.dns_class
    × (is_plain_class r.dns_class ≡ true) × (is_ordinary (type_of_data r.rdata) ≡ true)

-- one from which the sets of an owner may be taken
abbrev pub MayClearIn : NameValue → NameValue → DNSClass → Zone → Type 0
MayClearIn origin owner class z =
    IsZone z × IsFor z origin owner class × (is_plain_class class ≡ true)

-- Where the zone has no set of that owner and type, the set is merged into it; else YXRRSet.
abbrev pub after_create : SetValue → Zone → ResponseCode × Zone
after_create s z = if has_set z (set_key s) then (YXRRSet, z) else (NoError, merged z s)

-- The set is merged into the zone; where it is asked for and the zone has none of that owner and type, NXRRSet.
abbrev pub after_append : SetValue → Bool → Zone → ResponseCode × Zone
after_append s must_exist z =
    if must_exist && not (has_set z (set_key s)) then (NXRRSet, z) else (NoError, merged z s)

-- Where the zone has exactly the data of the current set, in any order and whatever the TTLs, that set goes
-- and the new one is merged into the zone; else NXRRSet.
abbrev pub after_swap : SetValue → SetValue → Zone → ResponseCode × Zone
after_swap current new z = if has_data_of_set z current
    then (NoError, merged (less_key z (set_key current)) new) else (NXRRSet, z)

-- Data equal to one of the set's goes.
abbrev pub after_delete_by_rdata : SetValue → Zone → ResponseCode × Zone
after_delete_by_rdata s z = (NoError, less_data z s)

-- The set of the record's owner and type goes.
abbrev pub after_delete_rrset : Record RData → Zone → ResponseCode × Zone
after_delete_rrset r z = (NoError, less_key z (key_of r.name (type_of_data r.rdata)))

-- All sets of the owner go; at the origin SOA and NS stay.
abbrev pub after_delete_all : NameValue → Zone → ResponseCode × Zone
after_delete_all owner z = (NoError, less_name z owner)

-- what the message of `create` means
abbrev pub CreatesSet : SetValue → NameValue → MessageValue → Type 0
CreatesSet s origin m = MeansUncut m (MayAddTo origin s) (after_create s)

-- that of `append`
abbrev pub AppendsToSet : SetValue → NameValue → Bool → MessageValue → Type 0
AppendsToSet s origin must_exist m = MeansUncut m (MayAddTo origin s) (after_append s must_exist)

-- that of `compare_and_swap`
abbrev pub SwapsSets : SetValue → SetValue → NameValue → MessageValue → Type 0
SwapsSets current new origin m =
    MeansUncut m (MaySwapIn origin current new) (after_swap current new)

-- that of `delete_by_rdata`
abbrev pub DeletesData : SetValue → NameValue → MessageValue → Type 0
DeletesData s origin m = MeansUncut m (λ z. IsSoundIn z origin s) (after_delete_by_rdata s)

-- that of `delete_rrset`
abbrev pub DeletesSet : Record RData → NameValue → MessageValue → Type 0
DeletesSet r origin m = MeansUncut m (MayDeleteIn origin r) (after_delete_rrset r)

-- that of `delete_all`
abbrev pub DeletesName : NameValue → NameValue → DNSClass → MessageValue → Type 0
DeletesName owner origin class m =
    MeansUncut m (MayClearIn origin owner class) (after_delete_all owner)
