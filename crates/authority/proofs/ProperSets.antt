-- Sets that are tidy, and those that an update leaves, are proper.
use Rattle.authority.proofs.OnceLemmas.{same_key}
use Rattle.authority.proofs.StandingLemmas.{all-append}
use Rattle.authority.specs.Once.{HasProperSets}
use Rattle.base.specs.names.Labels.{NameValue}
use Rattle.base.specs.RrKey.{key_cmp}
use Rattle.base.specs.declared.dns_class.DNSClass.{DNSClass}
use Rattle.base.specs.declared.record_type.RecordType.{RecordType}
use Rattle.base.specs.declared.rr_key.RrKey.{RrKey}
use Rattle.base_data.specs.Kinds.{type_of_data}
use Rattle.base_data.specs.declared.rdata.RData.{RData}
use Rattle.op.specs.declared.response_code.ResponseCode.{ResponseCode}
use Rattle.op_use.proofs.MapZones.{data_at}
use Rattle.op_use.specs.AppliedMeaning.{MapsAreZones}
use Rattle.op_use.specs.AppliedRecords.{after_by, records_after, records_answered, with_record}
use Rattle.op_use.specs.Applying.{IsApplied, IsZoneMap, is_all_supported, records_applied, records_at, records_in}
use Rattle.op_use.specs.Applying.{zone_of_map}
use Rattle.op_use.specs.NamedChanges.{datum_of}
use Rattle.op_use.specs.Server.{OfAny, OfNone, OfNothing, OfZone, Sections, StepCode, Use, fault, goes_with, is_cname}
use Rattle.op_use.specs.Server.{is_kept_out, is_needed, is_under, update, use_of}
use Rattle.op_use.specs.Zone.{Datum, Zone}
use Rattle.rr.specs.Record.{record_key, type_of_record}
use Rattle.rr.specs.RecordSet.{IsTidy, SetValue}
use Rattle.rr.specs.SetChanges.{has_data_of, joined, replaced, without}
use Rattle.rr.specs.declared.record.Record.{Record}
use Rattle.std.proofs.Common.{ap, refl, subst, sym}
use Rattle.std.proofs.lemmas.Bool.{cond_both}
use Rattle.std.specs.BTreeMap as tree
use Rattle.std.specs.BTreeMap.{BTreeMap}
use Rattle.std.specs.Cmp.{second_so}
use Rattle.std.specs.List.{AllByRecursion, list_any}
use Rattle.std.specs.Prelude.{List, None, Option, Some, [], map, not, ◌&&◌, ◌∷◌, ◌≡◌}

-- records of one type
abbrev AreOf : RecordType → List (Record RData) → Type 0
AreOf t xs = AllByRecursion (λ (r : Record RData). type_of_record r ≡ t) xs

-- and their data
abbrev IsDataOf : RecordType → List Datum → Type 0
IsDataOf t ds = AllByRecursion (λ (d : Datum). type_of_data d.rdata ≡ t) ds

data_of : (t : RecordType) (xs : List (Record RData)) → AreOf t xs → IsDataOf t (map datum_of xs)
data_of t [] h = tt
data_of t (x ∷ xs) h = (h.0, data_of t xs h.1)

records_with : (t : RecordType) (xs : List (Record RData)) → IsDataOf t (map datum_of xs) → AreOf t xs
records_with t [] h = tt
records_with t (x ∷ xs) h = (h.0, records_with t xs h.1)

module _ (k : RrKey) where
  abbrev AreOwn : List (Record RData) → Type 0
  AreOwn xs = AreOf k.record_type xs

  replaced_own : (r : Record RData) (xs : List (Record RData)) → type_of_record r ≡ k.record_type → AreOwn xs
      → AreOwn (replaced r xs)
  replaced_own r [] t h = tt
  replaced_own r (x ∷ xs) t h = (
    cond_both (has_data_of r x) r x (λ y. type_of_record y ≡ k.record_type) (λ e. t) (λ e. h.0),
    replaced_own r xs t h.1,
  )

  joined_own : (r : Record RData) (xs : List (Record RData)) → type_of_record r ≡ k.record_type → AreOwn xs
      → AreOwn (with_record r xs)
  joined_own r xs t h = cond_both (is_cname (type_of_record r)) (r ∷ []) (joined r xs) AreOwn (λ e. (t, tt))
      (λ e. all-append (λ (y : Record RData). type_of_record y ≡ k.record_type) (replaced r xs) _
      (replaced_own r xs t h)
      (cond_both (list_any (has_data_of r) xs) [] (r ∷ []) AreOwn (λ a. tt) (λ a. (t, tt))))

  without_own : (r : Record RData) (xs : List (Record RData)) → AreOwn xs → AreOwn (without r xs)
  without_own r [] h = tt
  without_own r (x ∷ xs) h = cond_both (not (has_data_of r x)) (x ∷ without r xs) (without r xs) AreOwn
      (λ e. (h.0, without_own r xs h.1)) (λ e. without_own r xs h.1)

  -- records of a key's type are so after an update, since what stands under the key has its type
  after_own : (u : Use) (z : Zone) (r : Record RData) (xs : List (Record RData)) → AreOwn xs
      → AreOwn (after_by u z r k xs)
  after_own OfZone z r xs h = cond_both (not (is_kept_out z r) && is_under r k) (with_record r xs) xs AreOwn
      (λ e. joined_own r xs (ap (λ (q : RrKey). q.record_type) (same_key (record_key r) k
      (second_so (not (is_kept_out z r)) _ e))) h) (λ e. h)
  after_own OfAny z r xs h = cond_both (goes_with z r k) [] xs AreOwn (λ e. tt) (λ e. h)
  after_own OfNone z r xs h = cond_both (not (is_needed z r) && is_under r k) (without r xs) xs AreOwn
      (λ e. without_own r xs h) (λ e. h)
  after_own OfNothing z r xs h = h

  all_own : (rs : List (Record RData)) (z : Zone) (xs : List (Record RData)) → AreOwn xs
      → AreOwn (records_after z rs k xs)
  all_own [] z xs h = h
  all_own (r ∷ rs) z xs h = all_own rs (update z r) _ (after_own (use_of z.class r.dns_class) z r xs h)

  answered_own : (z : Zone) (rs : List (Record RData)) (c : StepCode) (xs : List (Record RData)) → AreOwn xs
      → AreOwn (records_answered z rs c k xs)
  answered_own z rs (Some code) xs h = h
  answered_own z rs None xs h = all_own rs z xs h

  applied_own : (z : Zone) (s : Sections) (xs : List (Record RData)) → AreOwn xs → AreOwn (records_applied z s k xs)
  applied_own z s xs h = cond_both (is_all_supported s) (records_answered z s.updates (fault z s) k xs) xs AreOwn
      (λ e. answered_own z s.updates (fault z s) xs h) (λ e. h)

module _ (zones : MapsAreZones) (origin : NameValue) (class : DNSClass) where
  -- a map to which updates may be applied has proper sets where each record is of its key's type
  by_types : (m : BTreeMap RrKey SetValue) → IsZoneMap class m → ((k : RrKey) → AreOwn k (records_at m k))
      → HasProperSets (zone_of_map origin class m)
  by_types m h own k = (
    (zones origin class m h).distinct k,
    subst (λ ds. IsDataOf k.record_type ds) (sym (data_at origin class m k)) (data_of k.record_type (records_at m k)
        (own k)),
  )

  pub tidy_proper : (m : BTreeMap RrKey SetValue) → IsZoneMap class m
      → ((k : RrKey) (s : SetValue) → tree.get key_cmp m k ≡ Some s → IsTidy s)
      → HasProperSets (zone_of_map origin class m)
  tidy_proper m h tidy = by_types m h (λ k. found k (tree.get key_cmp m k) refl) where
    found : (k : RrKey) (o : Option SetValue) → tree.get key_cmp m k ≡ o → AreOwn k (records_in o)
    found k None e = tt
    found k (Some s) e = subst (λ (q : RrKey). AreOf q.record_type s.records) (h k s e).own_key (tidy k s e).own_type

  pub updated_proper : (s : Sections) (old : BTreeMap RrKey SetValue) (code : ResponseCode)
      (new : BTreeMap RrKey SetValue) → IsApplied origin class s old code new
      → HasProperSets (zone_of_map origin class old) → HasProperSets (zone_of_map origin class new)
  updated_proper s old code new h proper = by_types new h.is_map (λ k.
      subst (λ xs. AreOwn k xs) (sym (h.exact k)) (applied_own k (zone_of_map origin class old) s (records_at old k)
      (records_with k.record_type (records_at old k)
      (subst (λ ds. IsDataOf k.record_type ds) (data_at origin class old k) ((proper k).1)))))
