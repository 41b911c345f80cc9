-- The rows of what a server answers are what its definition computes.
use Rattle.op_use.specs.UpdateMessage.{empty_record}
use Rattle.op_use.proofs.Deleted.{deleted_is, turned}
use Rattle.op_use.proofs.MapZones.{no_entries}
use Rattle.op.specs.declared.response_code.ResponseCode.TheVariants.{NoError}
use Rattle.base.specs.declared.record_type.RecordType.TheVariants as types
use Rattle.base.specs.declared.dns_class.DNSClass.TheVariants as classes
use Rattle.std.specs.Prelude.{Bool, cond, false, List, ◌≡◌, not, None, Option, Some, true}
use Rattle.std.proofs.Common.{refl, sym, ap, ◌∙◌}
use Rattle.std.specs.FinMap as fin
use Rattle.std.specs.Ordering.{eq_by_cmp}
use Rattle.std.specs.FinMap.{FinMap}
use Rattle.base.specs.RrKey.{key_cmp}
use Rattle.base.specs.declared.rr_key.RrKey.{RrKey}
use Rattle.base.proofs.names.KeyLemmas.{key_cmp-total}
use Rattle.op_use.specs.ServerRows.{AddRows, BuilderRows, DeleteRecordRows, DeleteSetRows, OrderRows, PrerequisiteRows}
use Rattle.op_use.specs.ServerRows.{PrescanRows, ZoneSectionRows, example, origin_sets, zone_with}
use Rattle.op_use.specs.Zone.{Datum}
use Rattle.op_use.proofs.ZoneSteps.{retained, same_key, same_sets, twice}

abbrev Sets : Type 0
Sets = FinMap key_cmp (List Datum)

abbrev no_sets : Sets
no_sets = fin.empty

entries-insert : (m : Sets) (k : RrKey) (xs : List Datum)
    → fin.entries (fin.insert m k xs) ≡ fin.put key_cmp k xs (fin.entries m)
entries-insert = fin.entries-insert key_cmp-total

get-empty : (q : RrKey) → fin.get no_sets q ≡ None
get-empty = fin.get-empty key_cmp

get-insert : (m : Sets) (k : RrKey) (xs : List Datum) (q : RrKey)
    → fin.get (fin.insert m k xs) q ≡ cond (eq_by_cmp key_cmp q k) (Some xs) (fin.get m q)
get-insert = fin.get-insert key_cmp-total

insert_again : (m : Sets) (k : RrKey) (xs ys : List Datum) → fin.insert (fin.insert m k xs) k ys ≡ fin.insert m k ys
insert_again m k xs ys = same_sets _ _ (λ q. get-insert (fin.insert m k xs) k ys q
    ∙ ap (cond (eq_by_cmp key_cmp q k) (Some ys)) (get-insert m k xs q)
    ∙ twice (eq_by_cmp key_cmp q k) (Some xs) (Some ys) (fin.get m q) ∙ sym (get-insert m k ys q))

remove_is_retain : (m : Sets) (k : RrKey) → fin.remove m k ≡ fin.retain_keys m (λ q. not (eq_by_cmp key_cmp q k))
remove_is_retain m k = same_sets _ _ (λ q. fin.get-remove key_cmp-total m k q
    ∙ sym (turned (eq_by_cmp key_cmp q k) (fin.get m q) None) ∙ sym (retained m (λ x. not (eq_by_cmp key_cmp x k)) q))

none : (b : Bool) → cond {A = Option (List Datum)} b None None ≡ None
none true = refl
none false = refl

retain_empty : (p : RrKey → Bool) → fin.retain_keys no_sets p ≡ no_sets
retain_empty p = same_sets _ _ (λ q. retained no_sets p q ∙ ap (λ o. cond (p q) o None) (get-empty q) ∙ none (p q)
    ∙ sym (get-empty q))

retained_at : (m : Sets) (p : RrKey → Bool) (j : RrKey) (xs : List Datum) (q : RrKey) (b c : Bool)
    → eq_by_cmp key_cmp q j ≡ b → p j ≡ c
    → cond (p q) (cond b (Some xs) (fin.get m q)) None ≡ fin.get
    (cond c (fin.insert (fin.retain_keys m p) j xs) (fin.retain_keys m p)) q
retained_at m p j xs q true true e f =
    let own : p q ≡ true = ap p (same_key q j e) ∙ f in
    rw (own, get-insert (fin.retain_keys m p) j xs q, e)
retained_at m p j xs q true false e f =
    let own : p q ≡ false = ap p (same_key q j e) ∙ f in
    rw (retained m p q, own)
retained_at m p j xs q false true e f = rw (get-insert (fin.retain_keys m p) j xs q, e, retained m p q)
retained_at m p j xs q false false e f = sym (retained m p q)

retain_insert : (m : Sets) (j : RrKey) (xs : List Datum) (p : RrKey → Bool)
    → fin.retain_keys (fin.insert m j xs) p ≡ cond (p j) (fin.insert (fin.retain_keys m p) j xs) (fin.retain_keys m p)
retain_insert m j xs p = same_sets _ _ (λ q. retained (fin.insert m j xs) p q
    ∙ ap (λ o. cond (p q) o None) (get-insert m j xs q) ∙ retained_at m p j xs q _ _ refl refl)

-- what zones hold after puts and deletions
ruleset zones = (
  get-empty,
  get-insert,
  no_entries,
  entries-insert,
  insert_again,
  remove_is_retain,
  retain_empty,
  retain_insert,
)

--- ---- the rows

pub zone_section_rows : ZoneSectionRows
zone_section_rows = record {
  none = refl;
  two = refl;
  no_soa = refl;
  other_zone = refl;
  part_of_zone =
      refl;
  other_class = refl;
  type_first = refl;
  own_zone = refl;
}

pub prerequisite_rows : PrerequisiteRows
prerequisite_rows = record {
  ttl = refl;
  outside = refl;
  any_with_data = refl;
  name_unused = simp zones;
  name_used = simp zones;
  set_missing = simp zones;
  set_there = simp zones;
  none_with_data = refl;
  no_name_but_used = simp zones;
  no_name = simp zones;
  no_set_but_there = simp zones;
  no_set = simp zones;
  less = simp zones;
  other = simp zones;
  more = simp zones;
  same = simp zones;
  other_class = refl;
  first = simp zones;
}

pub order_rows : OrderRows
order_rows = record {
  zone_section = refl;
  prerequisites = simp zones;
  by_value = simp zones;
  by_value_last = simp zones;
  ttl = refl;
  owner = refl;
  owner_of_an_update = refl;
}

pub prescan_rows : PrescanRows
prescan_rows = record {
  outside = refl;
  add_any = refl;
  add_meta = refl;
  any_with_ttl = refl;
  any_with_data = refl;
  any_meta = refl;
  none_with_ttl = refl;
  none_any = refl;
  none_meta = refl;
  other_class = refl;
  nothing_before = refl;
}

pub add_rows : AddRows
add_rows = record {
  new_set = simp zones;
  new_data = simp zones;
  equal_data = simp zones;
  equal_names = simp zones;
  same_owner = simp zones;
  other_ns = simp zones;
  beside_cname = simp zones;
  cname_beside = simp zones;
  other_cname = simp zones;
}

pub delete_set_rows : DeleteSetRows
delete_set_rows = record {
  one_type = simp zones;
  not_there = simp zones;
  all_types = simp zones;
  soa_stays = ap (λ w. (NoError, w)) (deleted_is (zone_with origin_sets) (empty_record example types.SOA classes.ANY));
  ns_stays = ap (λ w. (NoError, w)) (deleted_is (zone_with origin_sets) (empty_record example types.NS classes.ANY));
  both_stay = simp zones;
  below = simp zones;
}

pub delete_record_rows : DeleteRecordRows
delete_record_rows = record {
  one = simp zones;
  last = simp zones;
  not_there = simp zones;
  soa_stays = refl;
  last_ns_stays = simp zones;
  one_ns = simp zones;
  soa_below_stays = refl;
  ns_below = simp zones;
  in_turn = simp zones;
}

pub builder_rows : BuilderRows
builder_rows = record {
  swapped = simp zones;
  not_swapped = simp zones;
  created = simp zones;
  not_created = simp zones;
  cleared = simp zones;
}
