-- what holds of each record of an update
use Rattle.std.specs.Prelude.{Bool, List, None, [], false, is_some, nat_eq, not, true, ◌&&◌, ◌==◌, ◌||◌, ◌∷◌, ◌≡◌}
use Rattle.std.proofs.Common.{refl, sym, ap, ◌∙◌, arith}
use Rattle.std.specs.List.{fold, AllByRecursion, ends_with}
use Rattle.std.specs.Cmp.Lexicographic.{pointwise}
use Rattle.std.specs.Bool.{beq}
use Rattle.std.specs.Cmp.{booleans_Decides, first_so, second_so}
use Rattle.std.specs.Ordering.{eq_by_cmp}
use Rattle.std.proofs.lemmas.Bool.{cond-true, cond-false, false_from_ne_true, true≢false}
use Rattle.base.specs.names.Labels.{NameValue}
use Rattle.base.specs.names.NameOrder.{folded, is_zone_of, lowered, same_name}
use Rattle.base.specs.names.NameOrderLaws.{labels_decide}
use Rattle.base_data.specs.Kinds.{type_of_data}
use Rattle.base_data.specs.declared.rdata.RData.{RData}
use Rattle.base.specs.RecordType.{type_number}
use Rattle.base.specs.declared.record_type.RecordType.{RecordType}
use Rattle.base.specs.declared.record_type.RecordType.TheVariants as types
use Rattle.base.specs.declared.dns_class.DNSClass.{DNSClass}
use Rattle.base.specs.declared.dns_class.DNSClass.TheVariants as classes
use Rattle.base.specs.contracts.dns_class.DNSClassEq.TheImpl.Laws.{laws-law as class_laws}
use Rattle.op.specs.declared.response_code.ResponseCode.TheVariants.{FormErr, NotAuth, NotZone}
use Rattle.rr.specs.declared.record.Record.{Record}
use Rattle.base.specs.declared.rr_key.RrKey.{RrKey}
use Rattle.base.specs.RrKey.{key_cmp}
use Rattle.rr.specs.RecordSet.{SetValue, is_ns, is_soa}
use Rattle.rr.specs.RecordOrder.{same_class}
use Rattle.op_use.specs.Zone.{Datum, Zone, at, has_set, put}
use Rattle.op_use.specs.NamedChanges.{set_key}
use Rattle.op_use.specs.Server.{is_any, is_cname, is_kept_out, is_meta, use_of, OfZone, first_fault, prescan_fault}
use Rattle.op_use.specs.Server.{update, added, and_then, unless, zone_fault, prescan_by, update_by}
use Rattle.rr.specs.Record.{record_key, type_of_record}
use Rattle.op_use.specs.SoundSet.{IsFor, IsSoundIn, is_ordinary, is_plain_class}
use Rattle.op_use.proofs.ZoneSteps.{at_put, put_put, at_put_other, same_key}

pub same_folded : (a b : NameValue) → same_name a b ≡ true → folded a ≡ folded b
same_folded a b h = (labels_decide (folded a) (folded b)).0 (second_so (beq a.absolute b.absolute) _ h)

pub same_lowered : (a b : NameValue) → same_name a b ≡ true → lowered a ≡ lowered b
same_lowered a b h =
    let flags : a.absolute ≡ b.absolute = (booleans_Decides a.absolute b.absolute).0
    (first_so (beq a.absolute b.absolute) _ h) in
    let labels : folded a ≡ folded b = same_folded a b h in
    λ i. record { labels = labels i; absolute = flags i }

-- a zone's origin, and an owner, in other spellings
pub zone_spelled : (named origin owner name : NameValue) → same_name named origin ≡ true → same_name name owner ≡ true
    → is_zone_of named owner ≡ true → is_zone_of origin name ≡ true
zone_spelled named origin owner name a b h =
    let origins : folded named ≡ folded origin = same_folded named origin a in
    let owners : folded name ≡ folded owner = same_folded name owner b in
    ap (λ xs. ends_with (pointwise nat_eq) (folded name) xs) (sym origins)
    ∙ ap (λ xs. ends_with (pointwise nat_eq) xs (folded named)) owners ∙ h

pub use_own : (c : DNSClass) → is_plain_class c ≡ true → use_of c c ≡ OfZone
use_own classes.IN h = refl
use_own classes.CH h = refl
use_own classes.HS h = refl
use_own classes.NONE h = cc
use_own classes.ANY h = cc
use_own (classes.OPT n) h = cond-true (same_class (classes.OPT n) (classes.OPT n)) _ _ (class_laws.refl (classes.OPT n))
use_own (classes.Unknown n) h = cond-true (same_class (classes.Unknown n) (classes.Unknown n)) _ _
    (class_laws.refl (classes.Unknown n))

pub no_soa : (t : RecordType) → is_ordinary t ≡ true → is_soa t ≡ false
no_soa types.SOA h = cc
no_soa _ h = refl

pub no_ns : (t : RecordType) → is_ordinary t ≡ true → is_ns t ≡ false
no_ns types.NS h = cc
no_ns _ h = refl

pub no_cname : (t : RecordType) → is_ordinary t ≡ true → is_cname t ≡ false
no_cname types.CNAME h = cc
no_cname _ h = refl

pub no_any : (t : RecordType) → is_ordinary t ≡ true → is_any t ≡ false
no_any types.ANY h = cc
no_any _ h = refl

seven : (a b c d e f g h : Bool) → not (a || b || c || d || e || f || g || h) ≡ true → h ≡ false
seven a b c d e f g true k = grind arith
seven a b c d e f g false k = refl

pub no_meta : (t : RecordType) → is_ordinary t ≡ true → is_meta t ≡ false
no_meta t h =
    let n = type_number t in
    seven (n == 0) (n == 2) (n == 5) (n == 6) (n == 11) (n == 24) (n == 41) (is_meta t) h

-- a record of a zone's class under a key
pub record IsAt (z : Zone) (k : RrKey) (t : RecordType) (r : Record RData) : Type 0 where
  pub key : record_key r ≡ k
  pub inside : is_zone_of z.origin r.name ≡ true
  pub own_use : use_of z.class r.dns_class ≡ OfZone
  pub type : type_of_record r ≡ t

-- the key of the owner's CNAME
abbrev pub cname_key : RrKey → RrKey
cname_key k = record k { record_type = types.CNAME }

pub each_at : (z : Zone) (named : NameValue) (s : SetValue) → IsFor z named s.name s.dns_class
    → is_plain_class s.dns_class ≡ true → (rs : List (Record RData))
    → AllByRecursion (λ (r : Record RData). same_name r.name s.name ≡ true) rs
    → AllByRecursion (λ (r : Record RData). type_of_data r.rdata ≡ s.record_type) rs
    → AllByRecursion (λ (r : Record RData). r.dns_class ≡ s.dns_class) rs
    → AllByRecursion (IsAt z (set_key s) s.record_type) rs
each_at z named s f p [] a b c = tt
each_at z named s f p (r ∷ rs) a b c =
    let names : lowered r.name ≡ lowered s.name = same_lowered r.name s.name a.0 in
    let kinds : type_of_data r.rdata ≡ s.record_type = b.0 in (
      record {
        key = λ i. record { name = names i; record_type = kinds i };
        inside = zone_spelled named z.origin s.name r.name f.same_origin a.0 f.within;
        own_use = (λ i. use_of (f.same_class i) (c.0 i)) ∙ use_own s.dns_class p;
        type = kinds;
      },
      each_at z named s f p rs a.1 b.1 c.1,
    )

pub given_at : (z : Zone) (named : NameValue) (s : SetValue) → IsSoundIn z named s
    → AllByRecursion (IsAt z (set_key s) s.record_type) s.records
given_at z named s g = each_at z named s g.place g.sound.class s.records g.sound.own_owner g.sound.own_type
    g.sound.own_class

-- the zone section passes
pub zone_passes : (z : Zone) (named owner : NameValue) (class : DNSClass) → IsFor z named owner class
    → zone_fault z (record {
      name = named;
      query_type = types.SOA;
      query_class = class;
      mdns_unicast_response =
          false;
    } ∷ []) ≡ None
zone_passes z named owner class f =
    ap (λ b. unless (b && same_class class z.class) NotAuth) f.same_origin
    ∙ ap (λ b. unless b NotAuth) (ap (same_class class) f.same_class ∙ class_laws.refl class)

scan_one : (z : Zone) (k : RrKey) (t : RecordType) (r : Record RData) → is_meta t ≡ false → IsAt z k t r
    → prescan_fault z r ≡ None
scan_one z k t r m h =
    ap (λ b. and_then (unless b NotZone) (prescan_by (use_of z.class r.dns_class) r)) h.inside
    ∙ ap (λ u. prescan_by u r) h.own_use ∙ ap (λ b. unless (not b) FormErr) (ap is_meta h.type ∙ m)

-- the prescan passes records of the zone's class
pub scan_passes : (z : Zone) (k : RrKey) (t : RecordType) → is_meta t ≡ false → (rs : List (Record RData))
    → AllByRecursion (IsAt z k t) rs → first_fault (prescan_fault z) rs ≡ None
scan_passes z k t m [] h = refl
scan_passes z k t m (r ∷ rs) h =
    ap (λ f. and_then f (first_fault (prescan_fault z) rs)) (scan_one z k t r m h.0) ∙ scan_passes z k t m rs h.1

-- a record that the set's key takes
pub update_one : (z : Zone) (k : RrKey) (t : RecordType) (r : Record RData) → is_cname t ≡ false
    → has_set z (cname_key k) ≡ false → IsAt z k t r → update z r ≡ put z k (added (at z k) r)
update_one z k t r plain none h =
    ap (λ u. update_by u z r) h.own_use
    ∙ cond-false (is_kept_out z r) _ _ (cond-false (is_cname (type_of_record r)) _ _ (ap is_cname h.type ∙ plain)
    ∙ ap (λ q. has_set z (cname_key q)) h.key ∙ none)
    ∙ ap (put z (record_key r)) (cond-false (is_cname (type_of_record r)) _ _ (ap is_cname h.type ∙ plain))
    ∙ ap (λ q. put z q (added (at z q) r)) h.key

cname_apart : (k : RrKey) → is_cname k.record_type ≡ false → eq_by_cmp key_cmp (cname_key k) k ≡ false
cname_apart k plain = false_from_ne_true _ (λ e.
    let same : cname_key k ≡ k = same_key (cname_key k) k e in
    let both : true ≡ is_cname k.record_type = ap (λ (q : RrKey). is_cname q.record_type) same in
    true≢false (both ∙ plain))

pub no_cname_after : (z : Zone) (k : RrKey) (xs : List Datum) → is_cname k.record_type ≡ false
    → has_set z (cname_key k) ≡ false → has_set (put z k xs) (cname_key k) ≡ false
no_cname_after z k xs plain none = ap is_some (at_put_other z k (cname_key k) xs (cname_apart k plain)) ∙ none

-- the same in the zone with another list under the key
pub at_after : (z : Zone) (k : RrKey) (t : RecordType) (xs : List Datum) (r : Record RData) → IsAt z k t r
    → IsAt (put z k xs) k t r
at_after z k t xs r h = record { key = h.key; inside = h.inside; own_use = h.own_use; type = h.type }

-- records of the zone's class, one after another
pub updates_put : (z : Zone) (k : RrKey) (t : RecordType) → is_cname t ≡ false → is_cname k.record_type ≡ false
    → has_set z (cname_key k) ≡ false
    → (rs : List (Record RData)) (xs : List Datum) → AllByRecursion (IsAt z k t) rs
    → fold update (put z k xs) rs ≡ put z k (fold added xs rs)
updates_put z k t plain own none [] xs h = refl
updates_put z k t plain own none (r ∷ rs) xs h =
    ap (λ w. fold update w rs) (
    update_one (put z k xs) k t r plain (no_cname_after z k xs own none) (at_after z k t xs r h.0)
    ∙ put_put z k xs (added (at (put z k xs) k) r) ∙ ap (λ ys. put z k (added ys r)) (at_put z k xs)
    ) ∙ updates_put z k t plain own none rs (added xs r) h.1
