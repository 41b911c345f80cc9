-- A map to which updates may be applied is a zone.
use Rattle.base.specs.names.Labels.{NameValue}
use Rattle.base.specs.RrKey.{key_cmp}
use Rattle.base.specs.declared.dns_class.DNSClass.{DNSClass}
use Rattle.base.specs.declared.rr_key.RrKey.{RrKey}
use Rattle.base_data.specs.SameData.{same_data}
use Rattle.base_data.specs.declared.rdata.RData.{RData}
use Rattle.op_use.proofs.MapZones.{data_at, get_zone}
use Rattle.op_use.specs.Applying.{IsZoneMap, IsZoneSet, data_in_set, records_in, zone_of_map}
use Rattle.op_use.specs.NamedChanges.{datum_of}
use Rattle.op_use.specs.Zone.{Datum, IsZone}
use Rattle.rr.specs.RecordSet.{SetValue}
use Rattle.rr.specs.declared.record.Record.{Record}
use Rattle.std.proofs.Common.{refl, subst, sym, ◌∙◌}
use Rattle.std.specs.BTreeMap as tree
use Rattle.std.specs.BTreeMap.{BTreeMap}
use Rattle.std.specs.List.{AllByRecursion, IsDistinct}
use Rattle.std.specs.Ordering.{on}
use Rattle.std.specs.Prelude.{List, None, Option, Some, [], false, map, option_map, ◌∷◌, ◌≡◌, ◌≢◌}

not_empty : (rs : List (Record RData)) → rs ≢ [] → Some (map datum_of rs) ≢ Some []
not_empty [] n = absurd (n refl)
not_empty (r ∷ rs) n = λ f. cc

filled_in : (o : Option SetValue) → ((s : SetValue) → o ≡ Some s → s.records ≢ []) → option_map data_in_set o ≢ Some []
filled_in None h = λ f. cc
filled_in (Some s) h = not_empty s.records (h s refl)

far_data : (x : Record RData) (xs : List (Record RData))
    → AllByRecursion (λ (y : Record RData). same_data x.rdata y.rdata ≡ false) xs
    → AllByRecursion (λ (d : Datum). same_data x.rdata d.rdata ≡ false) (map datum_of xs)
far_data x [] h = h
far_data x (y ∷ ys) h = (h.0, far_data x ys h.1)

distinct_data : (xs : List (Record RData)) → IsDistinct (on (λ (r : Record RData). r.rdata) same_data) xs
    → IsDistinct (on (λ (d : Datum). d.rdata) same_data) (map datum_of xs)
unfolding IsDistinct
distinct_data [] h = h
distinct_data (x ∷ xs) h = (far_data x xs h.0, distinct_data xs h.1)

kept_data : (class : DNSClass) (k : RrKey) (o : Option SetValue) → ((s : SetValue) → o ≡ Some s → IsZoneSet class k s)
    → IsDistinct (on (λ (d : Datum). d.rdata) same_data) (map datum_of (records_in o))
unfolding IsDistinct
kept_data class k None h = tt
kept_data class k (Some s) h = distinct_data s.records (h s refl).distinct

pub zone_is : (origin : NameValue) (class : DNSClass) (m : BTreeMap RrKey SetValue) → IsZoneMap class m
    → IsZone (zone_of_map origin class m)
zone_is origin class m old = record {
  filled = λ k f. filled_in (tree.get key_cmp m k) (λ s e. (old k s e).filled) (sym (get_zone origin class m k) ∙ f);
  distinct = λ k. subst (λ ds. IsDistinct (on (λ (d : Datum). d.rdata) same_data) ds) (sym (data_at origin class m k))
      (kept_data class k (tree.get key_cmp m k) (old k));
}
