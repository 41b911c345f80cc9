-- The sets of a map as those of the zone that it holds, and the records that are answered of them.
use Rattle.authority.specs.Found.{answered}
use Rattle.authority.specs.Lookup.{exists, exists_among, least_ttl, records, records_of, records_of_sets}
use Rattle.authority.specs.Lookup.{shown}
use Rattle.base.proofs.names.KeyLemmas.{key_cmp-exact, key_cmp-total}
use Rattle.base.specs.names.Labels.{NameValue}
use Rattle.base.specs.names.Parents.{is_at_or_below}
use Rattle.base.specs.RrKey.{key_cmp}
use Rattle.base.specs.declared.dns_class.DNSClass.{DNSClass}
use Rattle.base.specs.declared.rr_key.RrKey.{RrKey}
use Rattle.base_data.specs.declared.rdata.RData.{RData}
use Rattle.op_use.proofs.MapZones.{any_entries, get_zone}
use Rattle.op_use.proofs.OwnerKeys.{next_owned, owned_entry}
use Rattle.op_use.specs.Applying.{data_in_set, entry_of, zone_of_map}
use Rattle.op_use.specs.Zone.{Datum, is_owned}
use Rattle.op_use.specs.NamedChanges.{datum_of}
use Rattle.rr.specs.RecordSet.{SetValue}
use Rattle.rr.specs.declared.record.Record.{Record}
use Rattle.std.proofs.Common.{ap, append_assoc, arith, drop, drop-cons, get_or, length, refl, sym, ◌+◌, ◌++◌, ◌<◌, ◌∙◌}
use Rattle.std.proofs.lemmas.Bool.{cond-false, cond-true}
use Rattle.std.proofs.lemmas.List.Folds.{flat_map-map}
use Rattle.std.proofs.lemmas.List.{map-append}
use Rattle.std.proofs.lemmas.Map.Keys.{sorted_head, sorted_tail}
use Rattle.std.specs.BTreeMap as tree
use Rattle.std.specs.BTreeMap.{BTreeMap}
use Rattle.std.specs.Bool.{passes}
use Rattle.std.specs.FinMap as fin
use Rattle.std.specs.FinMap.Entries.{below_all, is_sorted, same_entries}
use Rattle.std.specs.FinMap.{FinMap}
use Rattle.std.specs.List.Sorted.{IsStrictlySortedBy}
use Rattle.std.specs.Borrow.{Bor}
use Rattle.std.specs.List.{AllByRecursion, filter, flat_map, fold, take_while}
use Rattle.std.specs.Map.{keys_of, values_of}
use Rattle.std.specs.Ordering.{is_lt}
use Rattle.base_data.specs.RData.{is_empty_data}
use Rattle.std.specs.Prelude.{Bool, List, None, Option, Some, [], cond, false, map, min, not, option_map, suc, true}
use Rattle.std.specs.Prelude.{unwrap_or, ℕ}
use Rattle.std.specs.Prelude.{◌&&◌, ◌∷◌, ◌≡◌}
use Rattle.std.specs.declared.cmp.Ordering.TheVariants.{Less}

module _ (origin : NameValue) (class : DNSClass) (m : BTreeMap RrKey SetValue) where
  -- a name exists in the zone exactly where it does by the keys of the map
  pub exists_is : (n : NameValue) → exists (zone_of_map origin class m) n ≡ exists_among n (tree.keys m)
  exists_is n = any_entries (λ (k : RrKey). is_at_or_below n k.name) m.entries

  found_at : (n : NameValue) (k : RrKey) (o : Option SetValue) → tree.get key_cmp m k ≡ o
      → records (zone_of_map origin class m) n k ≡ records_of class n (unwrap_or (option_map data_in_set o) [])
  found_at n k o h = ap (λ x. records_of class n (unwrap_or x [])) (get_zone origin class m k
      ∙ ap (option_map data_in_set) h)

  pub records_there : (n : NameValue) (k : RrKey) (s : SetValue) → tree.get key_cmp m k ≡ Some s
      → records (zone_of_map origin class m) n k ≡ answered class n s
  records_there n k s h = found_at n k (Some s) h

  pub no_records : (n : NameValue) (k : RrKey) → tree.get key_cmp m k ≡ None
      → records (zone_of_map origin class m) n k ≡ []
  no_records n k h = found_at n k None h

all_below : (k : RrKey) (es : List (RrKey × SetValue)) → AllByRecursion (λ q. key_cmp k q ≡ Less) (keys_of es)
    → below_all key_cmp k (map entry_of es) ≡ true
all_below k [] h = refl
all_below k (e ∷ es) (h, hs) = ap (λ o. is_lt o && below_all key_cmp k (map entry_of es)) h ∙ all_below k es hs

entries_sorted : (es : List (RrKey × SetValue)) → IsStrictlySortedBy key_cmp (keys_of es)
    → is_sorted key_cmp (map entry_of es) ≡ true
entries_sorted [] s = refl
entries_sorted (e ∷ es) s =
    ap (λ b. b && is_sorted key_cmp (map entry_of es)) (all_below e.0 es (sorted_head key_cmp e.0 (keys_of es) s))
    ∙ entries_sorted es (sorted_tail key_cmp e.0 (keys_of es) s)

-- the entries of a zone are those of the map
pub entries_are : (es : List (RrKey × SetValue)) → IsStrictlySortedBy key_cmp (keys_of es)
    → fin.entries (fin.from_entries {R = key_cmp} (map entry_of es)) ≡ map entry_of es
entries_are es s =
    let m : FinMap key_cmp (List Datum) = fin.from_entries (map entry_of es) in
    same_entries key_cmp key_cmp-total key_cmp-exact (fin.entries m) (map entry_of es) (fin.entries_sorted m)
    (passes _ (entries_sorted es s))
    (λ q. sym (fin.get-entries m q) ∙ fin.get-from_entries key_cmp-total (map entry_of es) q)

kept_step : (owner : NameValue) (e : RrKey × SetValue) (fs : List (RrKey × List Datum)) (gs : List
    (RrKey × SetValue)) (b : Bool) → fs ≡ map entry_of gs
    → cond b (entry_of e ∷ fs) fs ≡ map entry_of (cond b (e ∷ gs) gs)
kept_step owner e fs gs true h = ap (λ xs. entry_of e ∷ xs) h
kept_step owner e fs gs false h = h

kept_entries : (owner : NameValue) (es : List (RrKey × SetValue))
    → filter (λ (e : RrKey × List Datum). is_owned owner e.0) (map entry_of es) ≡ map entry_of (filter (λ
    (e : RrKey × SetValue). is_owned owner e.0) es)
kept_entries owner [] = refl
kept_entries owner (e ∷ es) = kept_step owner e _ _ (is_owned owner e.0) (kept_entries owner es)

-- the records of all sets of an owner
pub all_records : (class : DNSClass) (n owner : NameValue) (es : List (RrKey × SetValue)) (found : List
    (Bor SetValue)) → IsStrictlySortedBy key_cmp (keys_of es)
    → map (λ (s : Bor SetValue). s.now) found ≡ values_of (filter (λ (e : RrKey × SetValue). is_owned owner e.0) es)
    → records_of_sets class n (filter (λ (e : RrKey × List Datum). is_owned owner e.0)
    (fin.entries (fin.from_entries {R = key_cmp} (map entry_of es))))
    ≡ flat_map (λ (s : Bor SetValue). answered class n s.now) found
all_records class n owner es found sorted h =
    ap (λ xs. records_of_sets class n (filter (λ (e : RrKey × List Datum). is_owned owner e.0) xs))
    (entries_are es sorted)
    ∙ ap (records_of_sets class n) (kept_entries owner es)
    ∙ flat_map-map (λ (e : RrKey × List Datum). records_of class n e.1) entry_of (filter (λ
    (e : RrKey × SetValue). is_owned owner e.0) es)
    ∙ sym (flat_map-map (answered class n) (λ (e : RrKey × SetValue). e.1) (filter (λ
    (e : RrKey × SetValue). is_owned owner e.0) es))
    ∙ ap (flat_map (answered class n)) (sym h)
    ∙ flat_map-map (answered class n) (λ (s : Bor SetValue). s.now) found

-- a walk over the sets of an owner
module _ (owner : NameValue) where
  pub set_here : (found more : List (Bor SetValue)) (s : Bor SetValue) (it es : List (RrKey × SetValue)) (k : RrKey)
      (all : List SetValue) → more ≡ found ++ s ∷ []
      → it ≡ (k, s.now) ∷ es → is_owned owner k ≡ true
      → map (λ (s : Bor SetValue). s.now) found ++ values_of (take_while (owned_entry owner) it) ≡ all
      → map (λ (s : Bor SetValue). s.now) more ++ values_of (take_while (owned_entry owner) es) ≡ all
  set_here found more s it es k all m i own h =
      ap (λ xs. map (λ (s : Bor SetValue). s.now) xs ++ values_of (take_while (owned_entry owner) es)) m
      ∙ ap (λ xs. xs ++ values_of (take_while (owned_entry owner) es)) (map-append (λ
      (s : Bor SetValue). s.now) found (s ∷ []))
      ∙ append_assoc (map (λ (s : Bor SetValue). s.now) found) (s.now ∷ []) (values_of (take_while
      (owned_entry owner) es))
      ∙ ap (λ xs. map (λ (s : Bor SetValue). s.now) found ++ values_of xs) (sym (ap (take_while
      (owned_entry owner)) i ∙ next_owned owner (k, s.now) es own))
      ∙ h

-- ---- the records of a set, one after another

-- what the least TTL comes to of data that is left, after some
abbrev pub least_after : Option ℕ → List Datum → ℕ
least_after None ds = least_ttl ds
least_after (Some ttl) ds = fold (λ (least : ℕ) (e : Datum). min least e.ttl) ttl ds

-- the data that is answered of the records from a place on
abbrev pub shown_from : List (Record RData) → ℕ → List Datum
shown_from rs i = shown (map datum_of (drop i rs))

-- what is answered from a record on: it comes first, unless it is empty
pub shown_here : (rs : List (Record RData)) (i : ℕ) (r : Record RData) → i < length rs → r ≡ get_or rs i r
    → shown_from rs i ≡ cond (not (is_empty_data r.rdata)) (datum_of r ∷ shown_from rs (i + 1)) (shown_from rs (i + 1))
shown_here rs i r below is =
    let next : suc i ≡ i + 1 = omega arith in
    ap (λ xs. shown (map datum_of xs)) (drop-cons rs i r below ∙ ap (λ x. x ∷ drop (suc i) rs) (sym is)
    ∙ ap (λ n. r ∷ drop n rs) next)

-- a walk over the records of a set, of which those that are answered are added as f has them
module _ (f : Datum → Record RData) (rs : List (Record RData)) (i : ℕ) (r : Record RData) (below : i < length rs)
    (is : r ≡ get_or rs i r) (items all : List (Record RData)) (so_far : items ++ map f (shown_from rs i) ≡ all) where
  pub left_out : is_empty_data r.rdata ≡ true → items ++ map f (shown_from rs (i + 1)) ≡ all
  left_out empty = ap (λ ds. items ++ map f ds) (sym (shown_here rs i r below is ∙ cond-false _ _ _ (ap not empty)))
      ∙ so_far

  pub added : is_empty_data r.rdata ≡ false → (more : List (Record RData)) → more ≡ items ++ f (datum_of r) ∷ []
      → more ++ map f (shown_from rs (i + 1)) ≡ all
  added filled more e = ap (λ xs. xs ++ map f (shown_from rs (i + 1))) e
      ∙ append_assoc items (f (datum_of r) ∷ []) (map f (shown_from rs (i + 1)))
      ∙ ap (λ ds. items ++ map f ds) (sym (shown_here rs i r below is ∙ cond-true _ _ _ (ap not filled))) ∙ so_far
