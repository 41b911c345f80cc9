-- What raising a serial makes of records, of a set, and of a map.
use Rattle.base.specs.RrKey.{key_cmp}
use Rattle.base.specs.declared.dns_class.DNSClass.{DNSClass}
use Rattle.base.specs.declared.rr_key.RrKey.{RrKey}
use Rattle.base_data.specs.declared.rdata.RData.{RData}
use Rattle.op_use.proofs.KeySets.{each_key}
use Rattle.op_use.specs.Applying.{HasSameSets, IsZoneMap, IsZoneSet}
use Rattle.op_use.specs.RaisedSerial.{IsRaised, IsRaisedTo, raised_data, raised_records, raised_set}
use Rattle.rr.proofs.SetTidy.{one_is_tidy}
use Rattle.rr.specs.RecordSet.{SetValue}
use Rattle.rr.specs.declared.record.Record.{Record}
use Rattle.std.proofs.Common.{List, None, Option, Some, [], ap, length, refl, subst, sym, ℕ, ◌∙◌, ◌∷◌, ◌≡◌}
use Rattle.std.specs.BTreeMap.{BTreeMap, Updates, get}
use Rattle.std.specs.Option.{option_and_then}
use Rattle.std.specs.Prelude.{MatchOption, option_map, slice_index_or, slice_set}

-- ---- records

-- a record with other data
abbrev with_data : Record RData → RData → Record RData
with_data r d = record r { rdata = d }

-- records of one record, raised
abbrev one_with : Record RData → Option (RData × ℕ) → Option (List (Record RData) × ℕ)
one_with r o = option_map (λ d. (with_data r d.0 ∷ [], d.1)) o

-- the one record, raised or as it was
pub one_raised : (rs : List (Record RData)) (z : Record RData) (d : RData) (o : Option ℕ) → length rs ≡ 1
    → MatchOption o ((raised_data (slice_index_or rs 0 z).rdata ≡ None) × (d ≡ (slice_index_or rs 0 z).rdata))
    (λ n. raised_data (slice_index_or rs 0 z).rdata ≡ Some (d, n))
    → MatchOption o ((raised_records rs ≡ None) × (slice_set rs 0 (with_data (slice_index_or rs 0 z) d) ≡ rs))
    (λ n. raised_records rs ≡ Some (slice_set rs 0 (with_data (slice_index_or rs 0 z) d), n))
one_raised [] z d o one h = absurd cc
one_raised (x ∷ y ∷ more) z d o one h = absurd cc
one_raised (x ∷ []) z d None one (none, same) = (ap (one_with x) none, ap (λ e. with_data x e ∷ []) same)
one_raised (x ∷ []) z d (Some n) one h = ap (one_with x) h

-- what is raised is one record
pub one_left : (xs rs : List (Record RData)) (n : ℕ) → raised_records xs ≡ Some (rs, n)
    → (r : Record RData) × (rs ≡ r ∷ [])
one_left [] rs n is = absurd cc
one_left (r ∷ s ∷ more) rs n is = absurd cc
one_left (r ∷ []) rs n is = go (raised_data r.rdata) is where
  go : (o : Option (RData × ℕ)) → one_with r o ≡ Some (rs, n)
      → (r : Record RData) × (rs ≡ r ∷ [])
  go None is = absurd cc
  go (Some d) is = (with_data r d.0, sym (ap made is)) where
    made : Option (List (Record RData) × ℕ) → List (Record RData)
    made (Some p) = p.0
    made None = rs

-- ---- sets

-- a set with other records
abbrev pub with_records : SetValue → List (Record RData) → SetValue
with_records s rs = record s { records = rs }

-- a zone's set with one record, and all else the same, is a zone's set
pub still_set : (class : DNSClass) (k : RrKey) (s : SetValue) (r : Record RData) → IsZoneSet class k s
    → IsZoneSet class k (with_records s (r ∷ []))
still_set class k s r is = record {
  own_key = is.own_key;
  own_class = is.own_class;
  filled = λ same. absurd cc;
  distinct = (one_is_tidy r).distinct;
}

-- ---- maps

module _ (k : RrKey) (old new : BTreeMap RrKey SetValue) where
  -- the set under the key with its records raised, or as they were
  pub raised_by : (s : SetValue) (rs : List (Record RData)) (o : Option ℕ) → get key_cmp old k ≡ Some s
      → Updates key_cmp old new k (Some (with_records s rs))
      → MatchOption o ((raised_records s.records ≡ None) × (rs ≡ s.records))
      (λ n. raised_records s.records ≡ Some (rs, n))
      → IsRaised k old new o
  raised_by s rs None found puts (none, same) =
      subst (λ x. IsRaisedTo (option_and_then raised_set x) k old new None) (sym found)
      (subst (λ y. IsRaisedTo (option_map (λ r. (with_records s r.0, r.1)) y) k old new None) (sym none)
      (stays, refl)) where
        stays : HasSameSets old new
        stays = each_key (λ q. get key_cmp new q ≡ get key_cmp old q) k
            (puts.1 ∙ ap (λ rs. Some (with_records s rs)) same ∙ sym found) puts.2
  raised_by s rs (Some n) found puts is =
      subst (λ x. IsRaisedTo (option_and_then raised_set x) k old new (Some n)) (sym found)
      (subst (λ y. IsRaisedTo (option_map (λ r. (with_records s r.0, r.1)) y) k old new (Some n)) (sym is) (puts, refl))

  -- a map that updates may be applied to stays one
  pub raised_map : (o : Option ℕ) → IsRaised k old new o → (class : DNSClass) → IsZoneMap class old
      → IsZoneMap class new
  raised_map o raised class fits = at (get key_cmp old k) refl raised where
    same : HasSameSets old new → IsZoneMap class new
    same stays q s is = fits q s (sym (stays q) ∙ is)

    the_set : {y : SetValue} (x : SetValue) → Some y ≡ Some x → y ≡ x
    the_set x is = cc

    put : (s : SetValue) (r : Record RData) → get key_cmp old k ≡ Some s
        → Updates key_cmp old new k (Some (with_records s (r ∷ []))) → IsZoneMap class new
    put s r found puts = each_key (λ q. (x : SetValue) → get key_cmp new q ≡ Some x → IsZoneSet class q x) k
        (λ x is. subst (IsZoneSet class k) (the_set x (sym puts.1 ∙ is)) (still_set class k s r (fits k s found)))
        (λ q e x is. fits q x (sym (puts.2 q e) ∙ is))

    set : (s : SetValue) → get key_cmp old k ≡ Some s → (made : Option (List (Record RData) × ℕ))
        → raised_records s.records ≡ made → IsRaisedTo (option_map (λ r. (with_records s r.0, r.1)) made) k old new o
        → IsZoneMap class new
    set s found None made raised = same raised.0
    set s found (Some (rs, n)) made raised =
        let one : (r : Record RData) × (rs ≡ r ∷ []) = one_left s.records rs n made in
        put s one.0 found (subst (λ rs. Updates key_cmp old new k (Some (with_records s rs))) one.1 raised.0)

    at : (found : Option SetValue) → get key_cmp old k ≡ found
        → IsRaisedTo (option_and_then raised_set found) k old new o → IsZoneMap class new
    at None found raised = same raised.0
    at (Some s) found raised = set s found (raised_records s.records) refl raised
