-- The whole of an update.
use Rattle.base.specs.names.Labels.{NameValue}
use Rattle.base.specs.RrKey.{key_cmp}
use Rattle.base.specs.declared.dns_class.DNSClass.{DNSClass}
use Rattle.base.specs.declared.rr_key.RrKey.{RrKey}
use Rattle.base_data.specs.declared.rdata.RData.{RData}
use Rattle.op.specs.declared.response_code.ResponseCode.TheVariants.{NoError, NotImp}
use Rattle.op.specs.declared.response_code.ResponseCode.{ResponseCode}
use Rattle.op_use.proofs.AfterSteps.{map_after, others_after, taken_after, zone_after}
use Rattle.op_use.proofs.AppliedData.{any_data}
use Rattle.op_use.proofs.MapZones.{data_at}
use Rattle.op_use.specs.AppliedRecords.{records_answered}
use Rattle.op_use.specs.Applying.{entry_of, IsApplied, IsZoneMap, KeepsSame, applied, is_all_supported, records_applied}
use Rattle.op_use.specs.Applying.{records_at, records_in, zone_of_map}
use Rattle.op_use.specs.MapFaults.{complete_at, is_by_value, there_under}
use Rattle.op_use.specs.MapUpdates.{IsAfter, names_set}
use Rattle.op_use.specs.NamedChanges.{datum_of, is_data_of}
use Rattle.op_use.specs.Server.{StepCode, Sections, answer, collected, fault, is_met, is_of_zone, is_same_key, use_of}
use Rattle.rr.specs.Record.{record_key}
use Rattle.rr.specs.RecordSet.{SetValue}
use Rattle.rr.specs.SetChanges.{has_data_of, last_ttl}
use Rattle.rr.specs.declared.record.Record.{Record}
use Rattle.std.proofs.Common.{ap, inl, inr, refl, subst, sym, ◌∙◌, ◌⊎◌}
use Rattle.std.proofs.lemmas.Bool.{cond-false, cond-true}
use Rattle.std.proofs.lemmas.List.Folds.{list_all-map}
use Rattle.std.specs.BTreeMap as tree
use Rattle.std.specs.BTreeMap.{BTreeMap, is_at}
use Rattle.std.specs.FinMap as fin
use Rattle.std.specs.List.{IsAmong, list_all, list_any}
use Rattle.std.specs.Map.{lookup}
use Rattle.std.specs.Prelude.{Bool, List, None, Some, [], cond, false, filter, map, not, true, ◌&&◌, ◌||◌, ◌∷◌, ◌≡◌}

any_step : (p : Record RData → Bool) (b : Bool) (r : Record RData) (xs : List (Record RData))
    → list_any p (cond b (r ∷ xs) xs) ≡ ((b && p r) || list_any p xs)
any_step p true r xs = refl
any_step p false r xs = refl

any_filter : (p q : Record RData → Bool) (rs : List (Record RData))
    → list_any p (filter q rs) ≡ list_any (λ r. q r && p r) rs
any_filter p q [] = refl
any_filter p q (r ∷ rs) = any_step p (q r) r (filter q rs) ∙ ap (λ b. (q r && p r) || b) (any_filter p q rs)

all_step : (p : Record RData → Bool) (b : Bool) (r : Record RData) (xs : List (Record RData))
    → list_all p (cond b (r ∷ xs) xs) ≡ ((not b || p r) && list_all p xs)
all_step p true r xs = refl
all_step p false r xs = refl

all_filter : (p q : Record RData → Bool) (rs : List (Record RData))
    → list_all p (filter q rs) ≡ list_all (λ r. not (q r) || p r) rs
all_filter p q [] = refl
all_filter p q (r ∷ rs) = all_step p (q r) r (filter q rs) ∙ ap (λ b. (not (q r) || p r) && b) (all_filter p q rs)

-- the sets of a map that prerequisites by value name
module _ (origin : NameValue) (class : DNSClass) (m : BTreeMap RrKey SetValue) (rs : List (Record RData)) where
  met_same : (r : Record RData) → is_met (zone_of_map origin class m) (collected (zone_of_map origin class m) rs) r
      ≡ (there_under m r (record_key r) && complete_at m class rs (record_key r))
  met_same r =
      ap (λ ds. list_any (λ d. is_data_of d r) ds
      && list_all (λ d. list_any (λ q. is_same_key r q && is_data_of d q) (collected (zone_of_map origin class m) rs))
      ds) (data_at origin class m (record_key r))
      ∙ (λ i. any_data r (records_at m (record_key r)) i
      && list_all-map (λ d. list_any (λ q. is_same_key r q && is_data_of d q)
      (collected (zone_of_map origin class m) rs))
      datum_of (records_at m (record_key r)) i)
      ∙ ap (λ (f : Record RData → Bool). list_any (has_data_of r) (records_at m (record_key r))
      && list_all f (records_at m (record_key r)))
      (λ i x. any_filter (λ q. is_same_key r q && has_data_of q x) (λ q. is_of_zone (use_of class q.dns_class)) rs i)

  pub all_met_same : list_all (λ r. not (is_by_value class r)
      || (there_under m r (record_key r) && complete_at m class rs (record_key r))) rs
      ≡ list_all (is_met (zone_of_map origin class m) (collected (zone_of_map origin class m) rs))
      (collected (zone_of_map origin class m) rs)
  all_met_same = sym (ap (λ (f : Record RData → Bool). list_all f (collected (zone_of_map origin class m) rs))
      (λ i r. met_same r i)
      ∙ all_filter (λ r. there_under m r (record_key r) && complete_at m class rs (record_key r))
      (λ r. is_of_zone (use_of class r.dns_class)) rs)

-- what an update that is supported leaves under a key
spelled_as : (origin : NameValue) (class : DNSClass) (m : BTreeMap RrKey SetValue) (s : Sections) (q : RrKey)
    (found : StepCode) → is_all_supported s ≡ true
    → fault (zone_of_map origin class m) s ≡ found
    → records_applied (zone_of_map origin class m) s q (records_at m q) ≡ records_answered
    (zone_of_map origin class m) s.updates found q (records_at m q)
spelled_as origin class m s q found h f =
    cond-true _ _ _ h ∙ ap (λ c. records_answered (zone_of_map origin class m) s.updates c q (records_at m q)) f

-- an update that is refused
refused : (origin : NameValue) (class : DNSClass) (m : BTreeMap RrKey SetValue) (s : Sections) (code : ResponseCode)
    → IsZoneMap class m
    → (code, zone_of_map origin class m) ≡ applied (zone_of_map origin class m) s
    → ((q : RrKey) → records_applied (zone_of_map origin class m) s q (records_at m q) ≡ records_at m q)
    → IsApplied origin class s m code m
refused origin class m s code old h spelled = record {
  served = h;
  is_map = old;
  others = (λ q free. refl, λ e. refl);
  taken = λ q v a. inl a;
  ttls = λ q s e. inl e;
  exact = λ q. sym (spelled q);
  kept = λ q same. refl;
}

pub applied_not : (origin : NameValue) (class : DNSClass) (m : BTreeMap RrKey SetValue) (s : Sections)
    → IsZoneMap class m → is_all_supported s ≡ false → IsApplied origin class s m NotImp m
applied_not origin class m s old h = refused origin class m s NotImp old (sym (cond-false _ _ _ h))
    (λ q. cond-false _ _ _ h)

pub applied_fault : (origin : NameValue) (class : DNSClass) (m : BTreeMap RrKey SetValue) (s : Sections)
    (code : ResponseCode) → IsZoneMap class m → is_all_supported s ≡ true
    → fault (zone_of_map origin class m) s ≡ Some code → IsApplied origin class s m code m
applied_fault origin class m s code old h f =
    refused origin class m s code old (sym (cond-true _ _ _ h ∙ ap (answer (zone_of_map origin class m) s.updates) f))
    (λ q. spelled_as origin class m s q (Some code) h f)

-- an update of a copy of a map is one of the map
module _ (origin : NameValue) (class : DNSClass) (m n p : BTreeMap RrKey SetValue) (same : tree.IsUnchanged m n) where
  get_copy : (q : RrKey) → tree.get key_cmp n q ≡ tree.get key_cmp m q
  get_copy q = ap (λ es. lookup (is_at (key_cmp q)) es) same

  zone_copy : zone_of_map origin class n ≡ zone_of_map origin class m
  zone_copy = ap (λ (es : List (RrKey × SetValue)).
      record { origin = origin; class = class; sets = fin.from_entries (map entry_of es) }) same

  pub map_copy : IsZoneMap class m → IsZoneMap class n
  map_copy old = λ q s e. old q s (sym (get_copy q) ∙ e)

  pub applied_copy : (s : Sections) (code : ResponseCode) → IsApplied origin class s n code p
      → IsApplied origin class s m code p
  applied_copy s code h = record {
    served = h.served ∙ ap (λ z. applied z s) zone_copy;
    is_map = h.is_map;
    others = (λ q free. h.others.0 q free ∙ get_copy q, λ e. h.others.1 e ∙ same);
    taken = λ q v a. subst (λ o. IsAmong (records_in o) v ⊎ IsAmong s.updates v) (get_copy q) (h.taken q v a);
    ttls = λ q x e. subst (λ o. (o ≡ Some x) ⊎ (x.ttl ≡ last_ttl x.records)) (get_copy q) (h.ttls q x e);
    exact = λ q. h.exact q ∙ (λ i. records_applied (zone_copy i) s q (records_in (get_copy q i)));
    kept = λ q alike. h.kept q (alike ∙ ap records_in (sym (get_copy q))) ∙ get_copy q;
  }

pub applied_all : (origin : NameValue) (class : DNSClass) (m p : BTreeMap RrKey SetValue) (s : Sections)
    → IsZoneMap class m → is_all_supported s ≡ true → fault (zone_of_map origin class m) s ≡ None
    → IsAfter origin class s.updates m p → KeepsSame m p → IsApplied origin class s m NoError p
applied_all origin class m p s old h f after same = record {
  served = ap (λ z. (NoError, z)) (zone_after origin class s.updates m p old after)
      ∙ sym (cond-true _ _ _ h ∙ ap (answer (zone_of_map origin class m) s.updates) f);
  is_map = map_after origin class s.updates m p old after;
  others = (others_after origin class s.updates m p old after, λ e. absurd (e refl));
  taken = taken_after origin class s.updates m p old after;
  ttls = λ q x e. ttl q x ((after q).source x e);
  exact = λ q. (after q).exact ∙ sym (spelled_as origin class m s q None h f);
  kept = same;
} where
  ttl : (q : RrKey) (x : SetValue)
      → (tree.get key_cmp m q ≡ Some x) ⊎ ((names_set s.updates q ≡ true) × (x.ttl ≡ last_ttl x.records))
      → (tree.get key_cmp m q ≡ Some x) ⊎ (x.ttl ≡ last_ttl x.records)
  ttl q x (inl e) = inl e
  ttl q x (inr t) = inr t.1
