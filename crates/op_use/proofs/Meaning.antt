-- what the builders' updates make of a zone
use Rattle.op_use.proofs.Deleted.{deleted_is, turned}
use Rattle.std.specs.Prelude.{Bool, true, false, not, List, [], ◌∷◌, ◌++◌, ◌≡◌, ◌≢◌, ◌&&◌, ◌||◌, cond, map, length}
use Rattle.std.specs.Prelude.{nat_le, Option, Some, None, unwrap_or, is_some}
use Rattle.std.proofs.Common.{refl, sym, ap, ◌∙◌, subst, ◌⊎◌, inl, inr}
use Rattle.std.specs.List.{list_any, list_all, fold, AllByRecursion, IsDistinct}
use Rattle.std.specs.FinMap as fin
use Rattle.std.specs.Ordering.{on, eq_by_cmp}
use Rattle.std.proofs.Math.Bool.{and-false, and-true}
use Rattle.std.proofs.lemmas.Bool.{cases_cond, cond-true, cond-false, and_parts}
use Rattle.std.proofs.lemmas.Grind.{fold-append}
use Rattle.std.proofs.lemmas.List.Folds.{list_all-map}
use Rattle.base.specs.names.Labels.{NameValue}
use Rattle.base.specs.names.NameOrder.{folded, is_zone_of, same_name}
use Rattle.base.specs.names.NameOrderLaws.{same_by-equiv}
use Rattle.base_data.specs.Kinds.{type_of_data}
use Rattle.base_data.specs.declared.rdata.RData.{RData}
use Rattle.base.specs.declared.record_type.RecordType.{RecordType}
use Rattle.base.specs.declared.record_type.RecordType.TheVariants as types
use Rattle.base.specs.declared.dns_class.DNSClass.{DNSClass}
use Rattle.base.specs.declared.dns_class.DNSClass.TheVariants as classes
use Rattle.op.specs.declared.response_code.ResponseCode.{ResponseCode}
use Rattle.op.specs.declared.response_code.ResponseCode.TheVariants.{NoError, FormErr, NXDomain, YXDomain, YXRRSet}
use Rattle.op.specs.declared.response_code.ResponseCode.TheVariants.{NXRRSet, NotZone}
use Rattle.rr.specs.declared.record.Record.{Record}
use Rattle.base.specs.declared.rr_key.RrKey.{RrKey}
use Rattle.base.specs.RrKey.{key_cmp, key_of}
use Rattle.rr.specs.RecordSet.{SetValue, is_ns, is_soa}
use Rattle.base_data.specs.SameData.{same_data}
use Rattle.op_use.specs.Zone.{Datum, IsZone, Zone, at, has_set, has_type_at, is_guarded, put}
use Rattle.op_use.specs.NamedChanges.{has_data_of_set, is_data_of, less_data, less_key, merged, set_key}
use Rattle.op_use.specs.Server.{Sections, StepCode, and_then, unless, first_fault, prescan_fault, prescan_by}
use Rattle.op_use.specs.Server.{prerequisite_fault, prerequisite_by, prerequisites_fault, collected, is_found, is_met}
use Rattle.op_use.specs.Server.{is_same_key, is_of_zone, use_of, is_any, is_meta, update, removed, answer, serve}
use Rattle.op_use.specs.Server.{zone_fault}
use Rattle.rr.specs.Record.{record_key, type_of_record}
use Rattle.op_use.specs.SoundSet.{IsFor, IsSoundIn, NoCname, is_ordinary}
use Rattle.op_use.specs.UpdateMessage.{append, compare_and_swap, create, delete_all, delete_by_rdata, delete_rrset}
use Rattle.op_use.specs.UpdateMessage.{emptied, empty_record, untimed_in, without_ttl}
use Rattle.op_use.specs.UpdateMeaning.{MayAddTo, MayClearIn, MayDeleteIn, MaySwapIn, after_append, after_create}
use Rattle.op_use.specs.UpdateMeaning.{after_delete_all, after_delete_by_rdata, after_delete_rrset, after_swap}
use Rattle.op_use.proofs.ZoneSteps.{at_put, filled_put, put_put, put_same, tied, get_with_set}
use Rattle.op_use.proofs.MergeSteps.{all_added, all_removed, none_left}
use Rattle.op_use.proofs.Given.{IsAt, given_at, at_after, zone_passes, scan_passes, updates_put, zone_spelled, no_soa}
use Rattle.op_use.proofs.Given.{no_ns, no_cname, no_any, no_meta}

and_then_none : (p : StepCode) → and_then p None ≡ p
and_then_none (Some code) = refl
and_then_none None = refl

served : (z : Zone) (m : Sections) (p : StepCode) → zone_fault z m.zones ≡ None
    → prerequisites_fault z m.prerequisites ≡ p
    → first_fault (prescan_fault z) m.updates ≡ None → serve z m ≡ answer z m.updates p
served z m p a b c = ap (answer z m.updates) ((λ i. and_then (a i) (and_then (b i) (c i))) ∙ and_then_none p)

-- the answer where one condition decides
decided : (z w : Zone) (rs : List (Record RData)) (code : ResponseCode) (b : Bool) → (b ≡ true → fold update z rs ≡ w)
    → answer z rs (unless b code) ≡ cond b (NoError, w) (code, z)
decided z w rs code true h = ap (λ v. (NoError, v)) (h refl)
decided z w rs code false h = refl

same_itself : (n : NameValue) → same_name n n ≡ true
same_itself n = (same_by-equiv folded).refl n

owner_inside : (z : Zone) (named owner : NameValue) (class : DNSClass) → IsFor z named owner class
    → is_zone_of z.origin owner ≡ true
owner_inside z named owner class f = zone_spelled named z.origin owner owner f.same_origin (same_itself owner) f.within

-- the records of a set, put one after another
adds : (z : Zone) (named : NameValue) (s : SetValue) → IsSoundIn z named s → NoCname z s.name
    → fold update z s.records ≡ merged z s
adds z named s g none =
    let t = s.record_type in
    ap (λ w. fold update w s.records) (sym (put_same z (set_key s) g.zone))
    ∙ updates_put z (set_key s) t (no_cname t g.ordinary) (no_cname t g.ordinary) none s.records (at z (set_key s))
    (given_at z named s g)
    ∙ ap (put z (set_key s)) (all_added s.records (at z (set_key s)) g.sound.distinct)

-- the prerequisite that there is no such set, and that there is one
no_such : (z : Zone) (owner : NameValue) (t : RecordType) → is_zone_of z.origin owner ≡ true → is_any t ≡ false
    → prerequisites_fault z (empty_record owner t classes.NONE ∷ []) ≡ unless (not (has_set z (key_of owner t))) YXRRSet
no_such z owner t inside plain =
    and_then_none _ ∙ and_then_none _
    ∙ ap (λ b. and_then (unless b NotZone) (prerequisite_by (use_of z.class classes.NONE)
    (is_found z (empty_record owner t classes.NONE)) (empty_record owner t classes.NONE))) inside
    ∙ ap (λ b. unless (not (cond b (has_type_at z owner (λ u. true)) (has_set z (key_of owner t))))
    (cond b YXDomain YXRRSet)) plain

such : (z : Zone) (owner : NameValue) (t : RecordType) → is_zone_of z.origin owner ≡ true → is_any t ≡ false
    → prerequisites_fault z (empty_record owner t classes.ANY ∷ []) ≡ unless (has_set z (key_of owner t)) NXRRSet
such z owner t inside plain =
    and_then_none _ ∙ and_then_none _
    ∙ ap (λ b. and_then (unless b NotZone) (prerequisite_by (use_of z.class classes.ANY)
    (is_found z (empty_record owner t classes.ANY)) (empty_record owner t classes.ANY))) inside
    ∙ ap (λ b. unless (cond b (has_type_at z owner (λ u. true)) (has_set z (key_of owner t))) (cond b NXDomain NXRRSet))
    plain

pub create_changes : (z : Zone) (s : SetValue) (origin : NameValue) → MayAddTo origin s z
    → serve z (create s origin) ≡ after_create s z
create_changes z s origin (g, none) =
    let t = s.record_type in
    let k = set_key s in
    served z (create s origin) (unless (not (has_set z k)) YXRRSet) (zone_passes z origin s.name s.dns_class g.place)
    (no_such z s.name t (owner_inside z origin s.name s.dns_class g.place) (no_any t g.ordinary))
    (scan_passes z k t (no_meta t g.ordinary) s.records (given_at z origin s g))
    ∙ decided z (merged z s) s.records YXRRSet (not (has_set z k)) (λ _. adds z origin s g none)
    ∙ turned (has_set z k) _ _

pub append_changes : (z : Zone) (s : SetValue) (origin : NameValue) (must_exist : Bool) → MayAddTo origin s z
    → serve z (append s origin must_exist) ≡ after_append s must_exist z
append_changes z s origin true (g, none) =
    let t = s.record_type in
    let k = set_key s in
    served z (append s origin true) (unless (has_set z k) NXRRSet) (zone_passes z origin s.name s.dns_class g.place)
    (such z s.name t (owner_inside z origin s.name s.dns_class g.place) (no_any t g.ordinary))
    (scan_passes z k t (no_meta t g.ordinary) s.records (given_at z origin s g))
    ∙ decided z (merged z s) s.records NXRRSet (has_set z k) (λ _. adds z origin s g none)
    ∙ sym (turned (has_set z k) _ _)
append_changes z s origin false (g, none) =
    let t = s.record_type in
    let k = set_key s in
    served z (append s origin false) None (zone_passes z origin s.name s.dns_class g.place) refl
    (scan_passes z k t (no_meta t g.ordinary) s.records (given_at z origin s g))
    ∙ ap (λ w. (NoError, w)) (adds z origin s g none)

-- a record whose data goes
taken_one : (z : Zone) (k : RrKey) (t : RecordType) (r : Record RData) → is_soa t ≡ false → is_ns t ≡ false
    → IsAt z k t r → update z (untimed_in classes.NONE r) ≡ put z k (removed (at z k) r)
taken_one z k t r soa ns h =
    let no_start : is_soa (type_of_record r) ≡ false = ap is_soa h.type ∙ soa in
    let no_server : is_ns (type_of_record r) ≡ false = ap is_ns h.type ∙ ns in
    cond-false _ z _ (ap (λ (p : Bool × Bool). p.0
    || ((same_name r.name z.origin && (p.0 || p.1)) && nat_le (length (at z (record_key r))) 1))
    (λ i. (no_start i, no_server i))
    ∙ ap (λ b. b && nat_le (length (at z (record_key r))) 1) (and-false (same_name r.name z.origin)))
    ∙ ap (λ q. put z q (removed (at z q) r)) h.key

takes : (z : Zone) (k : RrKey) (t : RecordType) → is_soa t ≡ false → is_ns t ≡ false
    → (rs : List (Record RData)) (xs : List Datum) → AllByRecursion (IsAt z k t) rs
    → fold update (put z k xs) (map (untimed_in classes.NONE) rs) ≡ put z k (fold removed xs rs)
takes z k t soa ns [] xs h = refl
takes z k t soa ns (r ∷ rs) xs h =
    ap (λ w. fold update w (map (untimed_in classes.NONE) rs)) (
    taken_one (put z k xs) k t r soa ns (at_after z k t xs r h.0)
    ∙ put_put z k xs (removed (at (put z k xs) k) r) ∙ ap (λ ys. put z k (removed ys r)) (at_put z k xs)
    ) ∙ takes z k t soa ns rs (removed xs r) h.1

-- the data of a set, taken out one after another
pub takes_out : (z : Zone) (named : NameValue) (s : SetValue) → IsSoundIn z named s
    → fold update z (map (untimed_in classes.NONE) s.records) ≡ less_data z s
takes_out z named s g =
    let t = s.record_type in
    ap (λ w. fold update w (map (untimed_in classes.NONE) s.records)) (sym (put_same z (set_key s) g.zone))
    ∙ takes z (set_key s) t (no_soa t g.ordinary) (no_ns t g.ordinary) s.records (at z (set_key s))
    (given_at z named s g)
    ∙ ap (put z (set_key s)) (all_removed s.records (at z (set_key s)))

-- the prescan passes them
takes_pass : (z : Zone) (k : RrKey) (t : RecordType) → is_meta t ≡ false → (rs : List (Record RData))
    → AllByRecursion (IsAt z k t) rs → first_fault (prescan_fault z) (map (untimed_in classes.NONE) rs) ≡ None
takes_pass z k t m [] h = refl
takes_pass z k t m (r ∷ rs) h =
    ap (λ f. and_then f (first_fault (prescan_fault z) (map (untimed_in classes.NONE) rs))) (
    ap (λ b. and_then (unless b NotZone) (unless (not (is_meta (type_of_record r))) FormErr)) h.0.inside
    ∙ ap (λ b. unless (not b) FormErr) (ap is_meta h.0.type ∙ m)
    ) ∙ takes_pass z k t m rs h.1

pub delete_by_rdata_changes : (z : Zone) (s : SetValue) (origin : NameValue) → IsSoundIn z origin s
    → serve z (delete_by_rdata s origin) ≡ after_delete_by_rdata s z
delete_by_rdata_changes z s origin g =
    let t = s.record_type in
    served z (delete_by_rdata s origin) None (zone_passes z origin s.name s.dns_class g.place) refl
    (takes_pass z (set_key s) t (no_meta t g.ordinary) s.records (given_at z origin s g))
    ∙ ap (λ w. (NoError, w)) (takes_out z origin s g)

not_guarded : (z : Zone) (owner : NameValue) (t : RecordType) → is_ordinary t ≡ true → is_guarded z owner t ≡ false
not_guarded z owner t o =
    let soa : is_soa t ≡ false = no_soa t o in
    let ns : is_ns t ≡ false = no_ns t o in
    ap (λ (p : Bool × Bool). same_name owner z.origin && (p.0 || p.1)) (λ i. (soa i, ns i))
    ∙ and-false (same_name owner z.origin)

pub delete_rrset_changes : (z : Zone) (r : Record RData) (origin : NameValue) → MayDeleteIn origin r z
    → serve z (delete_rrset r origin) ≡ after_delete_rrset r z
delete_rrset_changes z r origin (zone, f, p, o) =
    let t = type_of_data r.rdata in
    served z (delete_rrset r origin) None (zone_passes z origin r.name r.dns_class f) refl (
    and_then_none _ ∙ ap (λ b. and_then (unless b NotZone) (prescan_by (use_of z.class classes.ANY) (emptied r)))
    (owner_inside z origin r.name r.dns_class f)
    ∙ ap (λ b. unless (not b || is_any t) FormErr) (no_meta t o)
    )
    ∙ ap (λ w. (NoError, w)) (deleted_is z (emptied r) ∙ cond-false (is_any t) _ _ (no_any t o)
    ∙ cond-false (is_guarded z r.name t) _ _ (not_guarded z r.name t o))

pub delete_all_changes : (z : Zone) (owner origin : NameValue) (class : DNSClass) → MayClearIn origin owner class z
    → serve z (delete_all owner origin class) ≡ after_delete_all owner z
delete_all_changes z owner origin class (zone, f, p) =
    served z (delete_all owner origin class) None (zone_passes z origin owner class f) refl (
    and_then_none _ ∙ ap (λ b. and_then (unless b NotZone)
    (prescan_by (use_of z.class classes.ANY) (empty_record owner types.ANY classes.ANY)))
    (owner_inside z origin owner class f)
    )
    ∙ ap (λ w. (NoError, w)) (deleted_is z (empty_record owner types.ANY classes.ANY))

-- compare and swap: the prerequisites
values_pass : (z : Zone) (k : RrKey) (t : RecordType) (rs : List (Record RData)) → AllByRecursion (IsAt z k t) rs
    → first_fault (prerequisite_fault z) (map without_ttl rs) ≡ None
values_pass z k t [] h = refl
values_pass z k t (r ∷ rs) h =
    ap (λ f. and_then f (first_fault (prerequisite_fault z) (map without_ttl rs))) (
    ap (λ b. and_then (unless b NotZone) (prerequisite_by (use_of z.class r.dns_class) (is_found z (without_ttl r))
    (without_ttl r))) h.0.inside
    ∙ ap (λ u. prerequisite_by u (is_found z (without_ttl r)) (without_ttl r)) h.0.own_use
    ) ∙ values_pass z k t rs h.1

all_collected : (z : Zone) (k : RrKey) (t : RecordType) (rs : List (Record RData)) → AllByRecursion (IsAt z k t) rs
    → collected z (map without_ttl rs) ≡ map without_ttl rs
all_collected z k t [] h = refl
all_collected z k t (r ∷ rs) h = cond-true (is_of_zone (use_of z.class r.dns_class)) _ _ (ap is_of_zone h.0.own_use)
    ∙ ap (λ ys. without_ttl r ∷ ys) (all_collected z k t rs h.1)

-- records under one key
abbrev pub Under : RrKey → List (Record RData) → Type 0
Under k rs = AllByRecursion (λ (r : Record RData). record_key r ≡ k) rs

under : (z : Zone) (k : RrKey) (t : RecordType) (rs : List (Record RData)) → AllByRecursion (IsAt z k t) rs
    → Under k (map without_ttl rs)
under z k t [] h = tt
under z k t (r ∷ rs) h = (h.0.key, under z k t rs h.1)

any_under : (k : RrKey) (r : Record RData) (d : Datum) (qs : List (Record RData)) → record_key r ≡ k → Under k qs
    → list_any (λ q. is_same_key r q && is_data_of d q) qs ≡ list_any (is_data_of d) qs
any_under k r d [] e h = refl
any_under k r d (q ∷ qs) e h =
    let here : is_same_key r q ≡ true = (λ i. eq_by_cmp key_cmp (e i) (h.0 i)) ∙ tied k in
    ap (λ b. (b && is_data_of d q) || list_any (λ q. is_same_key r q && is_data_of d q) qs) here
    ∙ ap (λ b. is_data_of d q || b) (any_under k r d qs e h.1)

all_under : (k : RrKey) (r : Record RData) (qs : List (Record RData)) (ds : List Datum) → record_key r ≡ k → Under k qs
    → list_all (λ d. list_any (λ q. is_same_key r q && is_data_of d q) qs) ds ≡ list_all
    (λ d. list_any (is_data_of d) qs) ds
all_under k r qs [] e h = refl
all_under k r qs (d ∷ ds) e h = λ i. any_under k r d qs e h i && all_under k r qs ds e h i

met_under : (z : Zone) (k : RrKey) (r : Record RData) (qs : List (Record RData)) → record_key r ≡ k → Under k qs
    → is_met z qs r ≡ (list_any (λ d. is_data_of d r) (at z k) && list_all (λ d. list_any (is_data_of d) qs) (at z k))
met_under z k r qs e h = ap (λ q. list_any (λ d. is_data_of d r) (at z q)
    && list_all (λ d. list_any (λ p. is_same_key r p && is_data_of d p) qs) (at z q)) e
    ∙ ap (λ b. list_any (λ d. is_data_of d r) (at z k) && b) (all_under k r qs (at z k) e h)

each_met : (z : Zone) (k : RrKey) (qs rs : List (Record RData)) → Under k qs → Under k rs
    → list_all (is_met z qs) rs ≡ list_all (λ r. list_any (λ d. is_data_of d r) (at z k)
    && list_all (λ d. list_any (is_data_of d) qs) (at z k)) rs
each_met z k qs [] g h = refl
each_met z k qs (r ∷ rs) g h = λ i. met_under z k r qs h.0 g i && each_met z k qs rs g h.1 i

four : (a b c : Bool) → ((a && b) && (c && b)) ≡ ((a && c) && b)
four true true c = refl
four true false true = refl
four true false false = refl
four false b c = refl

-- one condition beside each
beside : (f : Record RData → Bool) (b : Bool) (r : Record RData) (rs : List (Record RData))
    → list_all (λ q. f q && b) (r ∷ rs) ≡ (list_all f (r ∷ rs) && b)
beside f b r [] = and-true (f r && b) ∙ ap (λ a. a && b) (sym (and-true (f r)))
beside f b r (q ∷ rs) = ap (λ c. (f r && b) && c) (beside f b q rs) ∙ four (f r) b (list_all f (q ∷ rs))

any_without_ttl : (d : Datum) (rs : List (Record RData))
    → list_any (is_data_of d) (map without_ttl rs) ≡ list_any (is_data_of d) rs
any_without_ttl d [] = refl
any_without_ttl d (r ∷ rs) = ap (λ b. is_data_of d r || b) (any_without_ttl d rs)

data_without_ttl : (rs : List (Record RData)) (ds : List Datum)
    → list_all (λ d. list_any (is_data_of d) (map without_ttl rs)) ds ≡ list_all (λ d. list_any (is_data_of d) rs) ds
data_without_ttl rs [] = refl
data_without_ttl rs (d ∷ ds) = λ i. any_without_ttl d rs i && data_without_ttl rs ds i

met_once : (z : Zone) (k : RrKey) (t : RecordType) (rs : List (Record RData)) → rs ≢ [] → AllByRecursion (IsAt z k t) rs
    →
    list_all (is_met z (map without_ttl rs)) (map without_ttl rs)
    ≡ (list_all (λ r. list_any (λ d. is_data_of d r) (at z k)) rs
    && list_all (λ d. list_any (is_data_of d) rs) (at z k))
met_once z k t [] full h = absurd (full refl)
met_once z k t (r ∷ rs) full h =
    let qs : List (Record RData) = map without_ttl (r ∷ rs) in
    each_met z k qs qs (under z k t (r ∷ rs) h) (under z k t (r ∷ rs) h)
    ∙ beside (λ q. list_any (λ d. is_data_of d q) (at z k)) (list_all (λ d. list_any (is_data_of d) qs) (at z k))
    (without_ttl r) (map without_ttl rs)
    ∙ (λ i. list_all-map (λ q. list_any (λ d. is_data_of d q) (at z k)) without_ttl (r ∷ rs) i
    && data_without_ttl (r ∷ rs) (at z k) i)

values_met : (z : Zone) (named : NameValue) (s : SetValue) → IsSoundIn z named s → s.records ≢ []
    → prerequisites_fault z (map without_ttl s.records) ≡ unless (has_data_of_set z s) NXRRSet
values_met z named s g full =
    let t = s.record_type in
    let k = set_key s in
    let each = given_at z named s g in
    (λ i. and_then (values_pass z k t s.records each i)
    (unless (list_all (is_met z (all_collected z k t s.records each i)) (all_collected z k t s.records each i))
    NXRRSet))
    ∙ ap (λ b. unless b NXRRSet) (met_once z k t s.records full each)

-- then the updates
passed_after : (f : Record RData → StepCode) (p : StepCode) (xs ys : List (Record RData))
    → and_then p (first_fault f xs) ≡ None → (first_fault f xs ≡ None → first_fault f (xs ++ ys) ≡ first_fault f ys)
    → and_then p (first_fault f (xs ++ ys)) ≡ first_fault f ys
passed_after f (Some code) xs ys h go = cc
passed_after f None xs ys h go = go h

fault_after : (f : Record RData → StepCode) (xs ys : List (Record RData)) → first_fault f xs ≡ None
    → first_fault f (xs ++ ys) ≡ first_fault f ys
fault_after f [] ys h = refl
fault_after f (x ∷ xs) ys h = passed_after f (f x) xs ys h (fault_after f xs ys)

-- a zone without a key is one
still_distinct : (o p : Option (List Datum)) → (o ≡ None) ⊎ (o ≡ p)
    → IsDistinct (on (λ (d : Datum). d.rdata) same_data) (unwrap_or p [])
    → IsDistinct (on (λ (d : Datum). d.rdata) same_data) (unwrap_or o [])
unfolding IsDistinct
still_distinct o p (inl e) h = subst (λ r. IsDistinct (on (λ (d : Datum). d.rdata) same_data) (unwrap_or r []))
    (sym e) tt
still_distinct o p (inr e) h = subst (λ r. IsDistinct (on (λ (d : Datum). d.rdata) same_data) (unwrap_or r []))
    (sym e) h

still_none : (o p : Option (List Datum)) → (o ≡ None) ⊎ (o ≡ p) → is_some p ≡ false → is_some o ≡ false
still_none o p (inl e) h = ap is_some e
still_none o p (inr e) h = ap is_some e ∙ h

found_less : (z : Zone) (k q : RrKey) → (fin.get (less_key z k).sets q ≡ None) ⊎
    (fin.get (less_key z k).sets q ≡ fin.get z.sets q)
found_less z k q = cases_cond (eq_by_cmp key_cmp q k) None (fin.get z.sets q) _ (get_with_set z.sets k [] q)

zone_less : (z : Zone) (k : RrKey) → IsZone z → IsZone (less_key z k)
zone_less z k h = record {
  filled = filled_put z k [] h.filled;
  distinct = λ q. still_distinct _ _ (found_less z k q) (h.distinct q);
}

no_cname_less : (z : Zone) (k : RrKey) (owner : NameValue) → NoCname z owner → NoCname (less_key z k) owner
no_cname_less z k owner h = still_none _ _ (found_less z k (key_of owner types.CNAME)) h

given_less : (z : Zone) (named : NameValue) (s : SetValue) (k : RrKey) → IsSoundIn z named s
    → IsSoundIn (less_key z k) named s
given_less z named s k g = record {
  zone = zone_less z k g.zone;
  sound = g.sound;
  ordinary = g.ordinary;
  place = record { same_origin = g.place.same_origin; same_class = g.place.same_class; within = g.place.within };
}

-- where the data are the set's, none is left
all_gone : (z : Zone) (s : SetValue) → has_data_of_set z s ≡ true → less_data z s ≡ less_key z (set_key s)
all_gone z s h = ap (put z (set_key s)) (none_left s.records (at z (set_key s))
    (and_parts (list_all (λ r. list_any (λ d. is_data_of d r) (at z (set_key s))) s.records) _ h).1)

swapped : (z : Zone) (named : NameValue) (current new : SetValue) → IsSoundIn z named current → IsSoundIn z named new
    → NoCname z new.name → has_data_of_set z current ≡ true
    → fold update z (map (untimed_in classes.NONE) current.records ++ new.records) ≡ merged
    (less_key z (set_key current)) new
swapped z named current new g h none met =
    let k = set_key current in
    fold-append update z (map (untimed_in classes.NONE) current.records) new.records
    ∙ ap (λ w. fold update w new.records) (takes_out z named current g ∙ all_gone z current met)
    ∙ adds (less_key z k) named new (given_less z named new k h) (no_cname_less z k new.name none)

pub compare_and_swap_changes : (z : Zone) (current new : SetValue) (origin : NameValue)
    → MaySwapIn origin current new z → serve z (compare_and_swap current new origin) ≡ after_swap current new z
compare_and_swap_changes z current new origin (full, g, (h, none)) =
    let t = current.record_type in
    let u = new.record_type in
    served z (compare_and_swap current new origin) (unless (has_data_of_set z current) NXRRSet)
    (zone_passes z origin new.name new.dns_class h.place)
    (values_met z origin current g full)
    (fault_after (prescan_fault z) (map (untimed_in classes.NONE) current.records) new.records
    (takes_pass z (set_key current) t (no_meta t g.ordinary) current.records (given_at z origin current g))
    ∙ scan_passes z (set_key new) u (no_meta u h.ordinary) new.records (given_at z origin new h))
    ∙ decided z (merged (less_key z (set_key current)) new)
    (map (untimed_in classes.NONE) current.records ++ new.records) NXRRSet (has_data_of_set z current)
    (swapped z origin current new g h none)
