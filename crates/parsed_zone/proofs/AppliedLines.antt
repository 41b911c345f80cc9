-- The lines of a map that an update was applied to.
use Rattle.std.proofs.Common.{Bool, List, Ok, [], ap, false, inl, inr, refl, sym, true, ◌∷◌, ◌++◌, ◌||◌, ◌≡◌, ◌⊎◌, ◌∙◌}
use Rattle.std.proofs.Common.{ℕ}
use Rattle.std.proofs.lemmas.Bool.{cond-false, cond-true}
use Rattle.std.proofs.lemmas.List.{nil_from_length}
use Rattle.std.proofs.lemmas.Map.Entries.{lookup_head}
use Rattle.std.specs.BTreeMap as tree
use Rattle.std.specs.BTreeMap.{BTreeMap, is_at}
use Rattle.std.specs.Cmp.{eq_by_cmp_equiv}
use Rattle.std.specs.FinMap as fin
use Rattle.std.specs.FinMap.Entries.{by_order}
use Rattle.std.specs.List.Sorted.{IsStrictlySortedBy}
use Rattle.std.specs.List.{AllByRecursion, flat_map, list_any}
use Rattle.std.specs.Map.{keys_of, lookup}
use Rattle.std.specs.Ordering.{is_eq, ordering_reverse}
use Rattle.std.specs.Prelude.{Some, map}
use Rattle.std.specs.declared.cmp.Ordering.TheVariants.{Less}
use Rattle.base.proofs.names.KeyLemmas.{key_cmp-total}
use Rattle.base.specs.names.Labels.{NameValue}
use Rattle.base.specs.RrKey.{key_cmp}
use Rattle.base.specs.declared.dns_class.DNSClass.TheVariants as classes
use Rattle.base.specs.declared.rr_key.RrKey.{RrKey}
use Rattle.op.specs.MessageText.{line, record_lines}
use Rattle.op.specs.ResponseCode.{code_name}
use Rattle.op.specs.declared.response_code.ResponseCode.{ResponseCode}
use Rattle.op_use.specs.Applying.{IsApplied, applied, entry_of, records_in}
use Rattle.op_use.specs.Server.{Sections}
use Rattle.op_use.specs.Zone.{Datum, Zone}
use Rattle.base_data.specs.declared.rdata.RData.{RData}
use Rattle.rr.specs.RecordSet.{SetValue}
use Rattle.rr.specs.declared.record.Record.{Record}
use Rattle.txt.specs.ZoneSets.{ZoneSets}
use Rattle.parsed_zone.specs.Classes.{are_sets_in}
use Rattle.parsed_zone.specs.Applied.{applied_lines, code_word, lines_after, left_under, update_lines, zone_in}
use Rattle.parsed_zone.specs.Faults.{HasFault, fault_named}
use Rattle.parsed_zone.specs.declared.refusal.ZoneRefusal.{ZoneRefusal}
use Rattle.parsed_zone.specs.declared.refusal.ZoneRefusal.TheVariants as refusals
use Rattle.parsed_zone.specs.ZoneText.{origin_line, set_lines}

-- ---- entries in the order of their keys

-- each is found under its key
found_after : (e : RrKey × SetValue) (all es : ZoneSets) → AllByRecursion (λ k. key_cmp e.0 k ≡ Less) (keys_of es)
    → AllByRecursion (λ (f : RrKey × SetValue). lookup (is_at (key_cmp f.0)) all ≡ Some f.1) es
    → AllByRecursion (λ (f : RrKey × SetValue). lookup (is_at (key_cmp f.0)) (e ∷ all) ≡ Some f.1) es
found_after e all [] above found = tt
found_after e all (f ∷ es) above found = (
  cond-false _ _ _ (ap is_eq (key_cmp-total.antisymm f.0 e.0 ∙ ap ordering_reverse above.0)) ∙ found.0,
  found_after e all es above.1 found.1,
)

found_each : (es : ZoneSets) → IsStrictlySortedBy key_cmp (keys_of es)
    → AllByRecursion (λ (e : RrKey × SetValue). lookup (is_at (key_cmp e.0)) es ≡ Some e.1) es
unfolding IsStrictlySortedBy
found_each [] ordered = tt
found_each (e ∷ es) ordered = (
  lookup_head (is_at (key_cmp e.0)) e es ((eq_by_cmp_equiv key_cmp-total).refl e.0),
  found_after e es es ordered.0 (found_each es ordered.1),
)

-- they are those of a finite map
put_first : (k : RrKey) (v : List Datum) (es : ZoneSets) → AllByRecursion (λ q. key_cmp k q ≡ Less) (keys_of es)
    → fin.put key_cmp k v (map entry_of es) ≡ (k, v) ∷ map entry_of es
put_first k v [] above = refl
put_first k v (e ∷ es) above =
    ap (λ o. by_order o ((k, v) ∷ map entry_of (e ∷ es)) ((e.0, v) ∷ map entry_of es)
    (entry_of e ∷ fin.put key_cmp k v (map entry_of es))) above.0

entries_are : (es : ZoneSets) → IsStrictlySortedBy key_cmp (keys_of es)
    → fin.entries (fin.from_entries {R = key_cmp} (map entry_of es)) ≡ map entry_of es
unfolding IsStrictlySortedBy
entries_are [] ordered = nil_from_length _
    (sym (fin.len-entries (fin.empty {X = List Datum} {R = key_cmp})) ∙ fin.len-empty key_cmp (List Datum))
entries_are (e ∷ es) ordered =
    fin.entries-insert key_cmp-total (fin.from_entries (map entry_of es)) e.0 (entry_of e).1
    ∙ ap (fin.put key_cmp e.0 (entry_of e).1) (entries_are es ordered.1) ∙ put_first e.0 (entry_of e).1 es ordered.0

same_keys : (es : ZoneSets) → map (λ (e : RrKey × List Datum). e.0) (map entry_of es) ≡ keys_of es
same_keys [] = refl
same_keys (e ∷ es) = ap (λ ks. e.0 ∷ ks) (same_keys es)

keys_are : (es : ZoneSets) → IsStrictlySortedBy key_cmp (keys_of es)
    → fin.keys (fin.from_entries {R = key_cmp} (map entry_of es)) ≡ keys_of es
keys_are es ordered = ap (map (λ (e : RrKey × List Datum). e.0)) (entries_are es ordered) ∙ same_keys es

-- ---- what an update leaves under each key

-- what tests and lines look at under the keys of sets, where these are the records there
any_by : (test : RrKey → List (Record RData) → Bool) (left : RrKey → List (Record RData)) (es : ZoneSets)
    → AllByRecursion (λ (e : RrKey × SetValue). left e.0 ≡ e.1.records) es
    → list_any (λ k. test k (left k)) (keys_of es) ≡ list_any (λ (e : RrKey × SetValue). test e.0 e.1.records) es
any_by test left [] each = refl
any_by test left (e ∷ es) each = λ i. test e.0 (each.0 i) || any_by test left es each.1 i

lines_by : (left : RrKey → List (Record RData)) (es : ZoneSets)
    → AllByRecursion (λ (e : RrKey × SetValue). left e.0 ≡ e.1.records) es
    → flat_map (λ k. record_lines (left k)) (keys_of es) ≡ set_lines es
lines_by left [] each = refl
lines_by left (e ∷ es) each = λ i. record_lines (each.0 i) ++ lines_by left es each.1 i

module _ (name : NameValue) (m : Sections) (old new : BTreeMap RrKey SetValue) (code : ResponseCode)
    (ordered : tree.IsOrdered key_cmp new)
    (after : IsApplied name classes.IN m old code new) where
  left_each : (es : ZoneSets) → AllByRecursion (λ (e : RrKey × SetValue). tree.get key_cmp new e.0 ≡ Some e.1) es
      → AllByRecursion (λ (e : RrKey × SetValue). left_under m (name, old.entries) e.0 ≡ e.1.records) es
  left_each [] found = tt
  left_each (e ∷ es) found = (sym (after.exact e.0) ∙ ap records_in found.0, left_each es found.1)

  left_all : AllByRecursion (λ (e : RrKey × SetValue). left_under m (name, old.entries) e.0 ≡ e.1.records) new.entries
  left_all = left_each new.entries (found_each new.entries ordered)

  -- a test of what the update leaves is one of the map
  pub any_left : (test : RrKey → List (Record RData) → Bool)
      → list_any (λ k. test k (left_under m (name, old.entries) k))
      (fin.keys (applied (zone_in (name, old.entries)) m).1.sets)
      ≡ list_any (λ (e : RrKey × SetValue). test e.0 e.1.records) new.entries
  any_left test =
      ap (λ (outcome : ResponseCode × Zone). list_any (λ k. test k (left_under m (name, old.entries) k))
      (fin.keys outcome.1.sets)) (sym after.served)
      ∙ ap (list_any (λ k. test k (left_under m (name, old.entries) k))) (keys_are new.entries ordered)
      ∙ any_by test (left_under m (name, old.entries)) new.entries left_all

  -- what is printed of the map is what the update leaves
  pub lines_applied : applied_lines m (name, old.entries) ≡ update_lines code (name, new.entries)
  lines_applied =
      ap (λ (outcome : ResponseCode × Zone). line (code_word (code_name outcome.0))
      ++ (origin_line name ++ flat_map (λ k. record_lines (left_under m (name, old.entries) k))
      (fin.keys outcome.1.sets))) (sym after.served)
      ∙ ap (λ lines. line (code_word (code_name code)) ++ (origin_line name ++ lines))
      (ap (flat_map (λ k. record_lines (left_under m (name, old.entries) k))) (keys_are new.entries ordered)
      ∙ lines_by (left_under m (name, old.entries)) new.entries left_all)

  -- and so the lines of the map answer the update
  pub lines_answered : (text : List ℕ) → are_sets_in old.entries ≡ true → text ≡ update_lines code (name, new.entries)
      → lines_after m (name, old.entries) ≡ Ok text
  lines_answered text all is = cond-true _ _ _ all ∙ ap Ok (lines_applied ∙ sym is)

-- sets of another class refuse the update
pub class_refused : (m : Sections) (zone : NameValue × ZoneSets) (e : ZoneRefusal)
    → (e ≡ refusals.Memory) ⊎ ((e ≡ refusals.Class) × (are_sets_in zone.1 ≡ false))
    → HasFault (fault_named e) (lines_after m zone)
class_refused m zone e (inl memory) = rw memory tt
class_refused m zone e (inr is) = rw is.0 (cond-false _ _ _ is.1)
