-- What is known of a map after updates, and updates one after the other.
use Rattle.base.specs.names.Labels.{NameValue}
use Rattle.base.specs.RrKey.{key_cmp}
use Rattle.base.specs.declared.dns_class.DNSClass.{DNSClass}
use Rattle.base.specs.declared.rr_key.RrKey.{RrKey}
use Rattle.base_data.specs.declared.rdata.RData.{RData}
use Rattle.op_use.proofs.FollowSteps.{all_follow}
use Rattle.op_use.proofs.MapIsZone.{zone_is}
use Rattle.op_use.proofs.MapZones.{data_at}
use Rattle.op_use.proofs.Origins.{From, among_parts, from_joined, from_none, from_one, from_same, from_without}
use Rattle.op_use.proofs.Origins.{later_among, none_among}
use Rattle.op_use.proofs.OwnerParts.{owns_named, records_stay, same_place}
use Rattle.op_use.proofs.ZoneSteps.{Filled, filled_put, kept, kept_found, retained, same_sets}
use Rattle.op_use.specs.AppliedRecords.{after_by, after_update, records_after, with_record}
use Rattle.op_use.specs.Applying.{IsZoneMap, TakesFrom, names_owner, records_at, zone_of_map}
use Rattle.op_use.specs.MapUpdates.{IsAfter, IsLeft, names_set}
use Rattle.op_use.specs.NamedChanges.{datum_of}
use Rattle.op_use.specs.Server.{OfAny, OfNone, OfNothing, OfZone, Use, goes_with, is_cname, is_kept_out, is_needed}
use Rattle.op_use.specs.Server.{is_under, update, update_by, use_of}
use Rattle.op_use.specs.Zone.{Zone, at}
use Rattle.rr.specs.RecordSet.{SetValue}
use Rattle.rr.specs.Record.{type_of_record}
use Rattle.rr.specs.SetChanges.{joined, last_ttl, without}
use Rattle.rr.specs.declared.record.Record.{Record}
use Rattle.std.proofs.Common.{ap, arith, inl, inr, refl, subst, sym, ◌∙◌, ◌⊎◌}
use Rattle.std.proofs.Math.Bool.{or-true}
use Rattle.std.proofs.lemmas.Bool.{cond_both, true≢false}
use Rattle.std.proofs.lemmas.List.Folds.{list_any-append}
use Rattle.std.specs.BTreeMap as tree
use Rattle.std.specs.BTreeMap.{BTreeMap}
use Rattle.std.specs.FinMap as fin
use Rattle.std.specs.List.{IsAmong, fold}
use Rattle.std.specs.Prelude.{Bool, List, None, Option, Some, [], cond, false, if◌then◌else◌, map, not, true}
use Rattle.std.specs.Prelude.{zero, ◌&&◌, ◌++◌, ◌||◌, ◌∷◌, ◌≡◌, ◌≢◌}

-- ---- its zone

filled_if : (b : Bool) (z y : Zone) → Filled z → Filled y → Filled (if b then z else y)
filled_if true z y f g = f
filled_if false z y f g = g

filled_by : (how : Use) (z : Zone) (r : Record RData) → Filled z → Filled (update_by how z r)
filled_by OfZone z r h = filled_if _ z _ h (filled_put z _ _ h)
filled_by OfAny z r h = λ q f. by (goes_with z r q) q (sym (retained z.sets (λ k. not (goes_with z r k)) q) ∙ f) where
  by : (b : Bool) (q : RrKey) → cond (not b) (fin.get z.sets q) None ≢ Some []
  by true q e = cc
  by false q e = h q e
filled_by OfNone z r h = filled_if _ z _ h (filled_put z _ _ h)
filled_by OfNothing z r h = h

filled_after : (rs : List (Record RData)) (z : Zone) → Filled z → Filled (fold update z rs)
filled_after [] z h = h
filled_after (r ∷ rs) z h = filled_after rs (update z r) (filled_by (use_of z.class r.dns_class) z r h)

same_zone : (z y : Zone) → y.origin ≡ z.origin → y.class ≡ z.class → Filled z → Filled y
    → ((q : RrKey) → at z q ≡ at y q) → z ≡ y
same_zone z y o c f g h = λ i. record {
  origin = sym o i;
  class = sym c i;
  sets = same_sets z.sets y.sets (λ q. sym (kept_found (fin.get z.sets q) (f q)) ∙ ap kept (h q)
      ∙ kept_found (fin.get y.sets q) (g q)) i;
}

-- ---- where its records come from

from_update : (how : Use) (z : Zone) (r : Record RData) (k : RrKey) (xs : List (Record RData))
    → From r xs (after_by how z r k xs)
from_update OfZone z r k xs = cond_both (not (is_kept_out z r) && is_under r k) (with_record r xs) xs (From r xs)
    (λ _. cond_both (is_cname (type_of_record r)) (r ∷ []) (joined r xs) (From r xs) (λ _. from_one r xs)
    (λ _. from_joined r xs)) (λ _. from_same r xs)
from_update OfAny z r k xs = cond_both (goes_with z r k) [] xs (From r xs) (λ _. from_none r xs) (λ _. from_same r xs)
from_update OfNone z r k xs = cond_both (not (is_needed z r) && is_under r k) (without r xs) xs (From r xs)
    (λ _. from_without r xs) (λ _. from_same r xs)
from_update OfNothing z r k xs = from_same r xs

from_updates : (rs : List (Record RData)) (z : Zone) (k : RrKey) (xs : List (Record RData)) (v : Record RData)
    → IsAmong (records_after z rs k xs) v → IsAmong xs v ⊎ IsAmong rs v
from_updates [] z k xs v a = inl a
from_updates (r ∷ rs) z k xs v a = step (from_updates rs (update z r) k (after_update z r k xs) v a) where
  first : (v ≡ r) ⊎ IsAmong [] v → IsAmong (r ∷ rs) v
  first (inl e) = (zero, (omega arith, e))
  first (inr b) = none_among v b

  one : IsAmong xs v ⊎ IsAmong (r ∷ []) v → IsAmong xs v ⊎ IsAmong (r ∷ rs) v
  one (inl b) = inl b
  one (inr b) = inr (first (among_parts r v [] b))

  step : IsAmong (after_update z r k xs) v ⊎ IsAmong rs v → IsAmong xs v ⊎ IsAmong (r ∷ rs) v
  step (inl b) = one (from_update (use_of z.class r.dns_class) z r k xs v b)
  step (inr b) = inr (later_among r v rs b)

-- ---- a set whose owner no update names

unnamed_left : (z : Zone) (rs : List (Record RData)) (k : RrKey) (old new : Option SetValue)
    → names_owner rs k ≡ false → ((s : SetValue) → old ≡ Some s → s.records ≢ []) → IsLeft z rs k old new → new ≡ old
unnamed_left z rs k old (Some s) free filled h = from (h.source s refl) where
  from : (old ≡ Some s) ⊎ ((names_set rs k ≡ true) × (s.ttl ≡ last_ttl s.records)) → Some s ≡ old
  from (inl e) = sym e
  from (inr t) = absurd (true≢false (sym (owns_named rs k t.0) ∙ free))
unnamed_left z rs k None None free filled h = refl
unnamed_left z rs k (Some s) None free filled h =
    absurd (filled s refl (sym (h.exact ∙ records_stay rs z k s.records free)))

module _ (origin : NameValue) (class : DNSClass) (rs : List (Record RData)) (m n : BTreeMap RrKey SetValue)
    (old : IsZoneMap class m) (h : IsAfter origin class rs m n) where
  pub map_after : IsZoneMap class n
  map_after q s e = (h q).fits s e

  pub zone_after : zone_of_map origin class n ≡ fold update (zone_of_map origin class m) rs
  zone_after =
      let place = same_place rs (zone_of_map origin class m) in
      same_zone _ _ place.0 place.1 (zone_is origin class n map_after).filled
      (filled_after rs _ (zone_is origin class m old).filled)
      (λ q. data_at origin class n q ∙ ap (map datum_of) (h q).exact
      ∙ sym (all_follow rs (zone_of_map origin class m) q (records_at m q) (data_at origin class m q)))

  pub taken_after : TakesFrom rs m n
  taken_after q v a = from_updates rs (zone_of_map origin class m) q (records_at m q) v
      (subst (λ xs. IsAmong xs v) (h q).exact a)

  pub others_after : (q : RrKey) → names_owner rs q ≡ false → tree.get key_cmp n q ≡ tree.get key_cmp m q
  others_after q free = unnamed_left (zone_of_map origin class m) rs q _ _ free (λ s e. (old q s e).filled) (h q)

-- ---- more updates

more_records : (z : Zone) (rs ss : List (Record RData)) (q : RrKey) (xs : List (Record RData))
    → records_after z (rs ++ ss) q xs ≡ records_after (fold update z rs) ss q (records_after z rs q xs)
more_records z [] ss q xs = refl
more_records z (x ∷ rs) ss q xs = more_records (update z x) rs ss q (after_update z x q xs)

pub more_after : (origin : NameValue) (class : DNSClass) (rs ss : List (Record RData)) (m n p : BTreeMap RrKey SetValue)
    → IsZoneMap class m → IsAfter origin class rs m n → IsAfter origin class ss n p
    → IsAfter origin class (rs ++ ss) m p
more_after origin class rs ss m n p old first next q = record {
  fits = (next q).fits;
  exact = (next q).exact
      ∙ (λ i. records_after (zone_after origin class rs m n old first i) ss q ((first q).exact i))
      ∙ sym (more_records (zone_of_map origin class m) rs ss q (records_at m q));
  source = λ s e. from s ((next q).source s e);
} where
  both : names_set (rs ++ ss) q ≡ (names_set rs q || names_set ss q)
  both = list_any-append (λ (x : Record RData). is_under x q) rs ss

  before : (s : SetValue) → (tree.get key_cmp m q ≡ Some s) ⊎ ((names_set rs q ≡ true) × (s.ttl ≡ last_ttl s.records))
      → (tree.get key_cmp m q ≡ Some s) ⊎ ((names_set (rs ++ ss) q ≡ true) × (s.ttl ≡ last_ttl s.records))
  before s (inl e) = inl e
  before s (inr t) = inr (both ∙ ap (λ b. b || names_set ss q) t.0, t.1)

  from : (s : SetValue) → (tree.get key_cmp n q ≡ Some s) ⊎ ((names_set ss q ≡ true) × (s.ttl ≡ last_ttl s.records))
      → (tree.get key_cmp m q ≡ Some s) ⊎ ((names_set (rs ++ ss) q ≡ true) × (s.ttl ≡ last_ttl s.records))
  from s (inl e) = before s ((first q).source s e)
  from s (inr t) = inr (both ∙ ap (λ b. names_set rs q || b) t.0 ∙ or-true (names_set rs q), t.1)
