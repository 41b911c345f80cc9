-- What the builders send is supported, and makes the named change of a map.
use Rattle.std.proofs.Common.{Bool, List, [], ap, false, map, refl, true, ◌&&◌, ◌||◌, ◌∙◌, ◌∷◌, ◌≡◌}
use Rattle.std.proofs.lemmas.Bool.{cond-true}
use Rattle.std.proofs.lemmas.List.Folds.{list_all-append, list_all-map}
use Rattle.std.specs.List.{AllByRecursion, list_all}
use Rattle.base.specs.names.Labels.{NameValue}
use Rattle.base.specs.declared.dns_class.DNSClass.TheVariants as classes
use Rattle.base.specs.declared.dns_class.DNSClass.{DNSClass}
use Rattle.base.specs.declared.record_type.RecordType.{RecordType}
use Rattle.base_data.specs.Kinds.{type_of_data}
use Rattle.base_data.specs.declared.rdata.RData.{RData}
use Rattle.op.specs.Message.{MessageValue}
use Rattle.op.specs.declared.response_code.ResponseCode.{ResponseCode}
use Rattle.op_use.proofs.BuiltLemmas.{read_sections}
use Rattle.op_use.proofs.MapIsZone.{zone_is}
use Rattle.op_use.proofs.Meaning.{append_changes, compare_and_swap_changes, create_changes, delete_all_changes}
use Rattle.op_use.proofs.Meaning.{delete_by_rdata_changes, delete_rrset_changes}
use Rattle.op_use.specs.Applying.{applied, is_all_supported, is_class_any, is_class_none, is_supported}
use Rattle.op_use.specs.Applying.{is_supported_prerequisite, zone_of_map}
use Rattle.op_use.specs.AppliedMeaning.{AppendApplies, AppliesUncut, CreateApplies, DeleteDataApplies}
use Rattle.op_use.specs.AppliedMeaning.{DeleteNameApplies, DeleteSetApplies, MapsAreZones, SwapApplies}
use Rattle.op_use.specs.Server.{is_any, is_cname, sections_of, serve}
use Rattle.rr.specs.Record.{type_of_record}
use Rattle.op_use.specs.SoundSet.{IsSound, IsSoundIn, is_ordinary}
use Rattle.op_use.specs.UpdateMeaning.{MayAddTo, MayDeleteIn, MaySwapIn}
use Rattle.op_use.specs.UpdateMessage.{append, emptied, empty_record, untimed_in, without_ttl}
use Rattle.op_use.specs.Zone.{Zone}
use Rattle.rr.specs.RecordSet.{SetValue, is_ns}
use Rattle.rr.specs.declared.record.Record.{Record}

-- ---- what is supported

supported_one : (t : RecordType) → is_ordinary t ≡ true → (r : Record RData) → type_of_data r.rdata ≡ t
    → is_supported r ≡ true
supported_one t plain r own =
    ap (λ (b : Bool). (b || is_ns (type_of_record r) || is_cname (type_of_record r))
    || (is_any (type_of_record r) && is_class_any r.dns_class)) (ap is_ordinary own ∙ plain)

asked_one : (t : RecordType) → is_ordinary t ≡ true → (r : Record RData) → type_of_data r.rdata ≡ t
    → is_supported_prerequisite r ≡ true
asked_one t plain r own = ap (λ (b : Bool). b || (is_any (type_of_record r) && is_class_none r.dns_class))
    (supported_one t plain r own)

-- records of one ordinary type, and so those that have their data
all_as : (p : Record RData → Bool) (t : RecordType) → ((r : Record RData) → type_of_data r.rdata ≡ t → p r ≡ true)
    → (rs : List (Record RData)) → AllByRecursion (λ (r : Record RData). type_of_data r.rdata ≡ t) rs
    → list_all p rs ≡ true
all_as p t each [] own = refl
all_as p t each (r ∷ rs) own = λ i. each r own.0 i && all_as p t each rs own.1 i

supported_set : (s : SetValue) → IsSound s → is_ordinary s.record_type ≡ true → list_all is_supported s.records ≡ true
supported_set s sound plain = all_as is_supported s.record_type (supported_one s.record_type plain) s.records
    sound.own_type

supported_none : (s : SetValue) → IsSound s → is_ordinary s.record_type ≡ true
    → list_all is_supported (map (untimed_in classes.NONE) s.records) ≡ true
supported_none s sound plain = list_all-map is_supported (untimed_in classes.NONE) s.records
    ∙ all_as (λ r. is_supported (untimed_in classes.NONE r)) s.record_type
    (λ r own. supported_one s.record_type plain (untimed_in classes.NONE r) own) s.records sound.own_type

asked_empty : (owner : NameValue) (t : RecordType) (c : DNSClass) → is_ordinary t ≡ true
    → list_all is_supported_prerequisite (empty_record owner t c ∷ []) ≡ true
asked_empty owner t c plain = λ i. asked_one t plain (empty_record owner t c) refl i && true

supported_append : (s : SetValue) (origin : NameValue) (must_exist : Bool) → IsSound s
    → is_ordinary s.record_type ≡ true → is_all_supported (append s origin must_exist) ≡ true
supported_append s origin true sound plain =
    λ i. asked_empty s.name s.record_type classes.ANY plain i && supported_set s sound plain i
supported_append s origin false sound plain = supported_set s sound plain

-- ---- what is applied

applies : (m : MessageValue) (Premise : Zone → Type 0) (outcome : Zone → ResponseCode × Zone)
    → ((z : Zone) → Premise z → is_all_supported (sections_of m) ≡ true)
    → ((z : Zone) → Premise z → serve z (sections_of m) ≡ outcome z) → AppliesUncut m Premise outcome
applies m Premise outcome all means limit B c k uncut n e word origin class old new code is_map premise h =
    let z : Zone = zone_of_map origin class old in
    h.served ∙ ap (applied z) (read_sections m limit B c k uncut n e word) ∙ cond-true _ _ _ (all z premise)
    ∙ means z premise

pub maps_are_zones : MapsAreZones
maps_are_zones = zone_is

pub create_applies : CreateApplies
create_applies id s origin use_edns = applies _ _ _
    (λ (z : Zone) (p : MayAddTo origin s z) i. asked_empty s.name s.record_type classes.NONE p.0.ordinary i
    && supported_set s p.0.sound p.0.ordinary i) (λ z p. create_changes z s origin p)

pub append_applies : AppendApplies
append_applies id s origin must_exist use_edns = applies _ _ _
    (λ (z : Zone) (p : MayAddTo origin s z). supported_append s origin must_exist p.0.sound p.0.ordinary)
    (λ z p. append_changes z s origin must_exist p)

pub swap_applies : SwapApplies
swap_applies id current new origin use_edns = applies _ _ _
    (λ (z : Zone) (p : MaySwapIn origin current new z) i.
    (list_all-map is_supported_prerequisite without_ttl current.records
    ∙ all_as (λ r. is_supported_prerequisite (without_ttl r)) current.record_type
    (λ r own. asked_one current.record_type p.1.ordinary (without_ttl r) own) current.records p.1.sound.own_type) i
    && (list_all-append is_supported (map (untimed_in classes.NONE) current.records) new.records
    ∙ (λ j. supported_none current p.1.sound p.1.ordinary j && supported_set new p.2.0.sound p.2.0.ordinary j)) i)
    (λ z p. compare_and_swap_changes z current new origin p)

pub delete_data_applies : DeleteDataApplies
delete_data_applies id s origin use_edns = applies _ _ _
    (λ (z : Zone) (p : IsSoundIn z origin s). supported_none s p.sound p.ordinary)
    (λ z p. delete_by_rdata_changes z s origin p)

pub delete_set_applies : DeleteSetApplies
delete_set_applies id r origin use_edns = applies _ _ _
    (λ (z : Zone) (p : MayDeleteIn origin r z) i. supported_one (type_of_data r.rdata) p.3 (emptied r) refl i && true)
    (λ z p. delete_rrset_changes z r origin p)

pub delete_name_applies : DeleteNameApplies
delete_name_applies id owner origin class use_edns =
    applies _ _ _ (λ z p. refl) (λ z p. delete_all_changes z owner origin class p)
