-- The sets of a map from a key on, in a transfer, and what a transfer gives of the zone.
use Rattle.authority.proofs.CaseLemmas.{lowered_records}
use Rattle.authority.proofs.SetLemmas.{entries_are}
use Rattle.authority.specs.Transfer.{between, given, given_from, is_between, records_from, zone_records}
use Rattle.authority.specs.Lookup.{owner_lowered, records_of}
use Rattle.authority.specs.ZoneRef.{AreUnderKeys}
use Rattle.base.proofs.names.BelowLemmas.{below_le}
use Rattle.base.proofs.names.KeyLemmas.{key_cmp-exact, key_cmp-total}
use Rattle.base.specs.names.Labels.{NameValue}
use Rattle.base.specs.names.NameOrder.{same_name}
use Rattle.base.specs.names.Parents.{is_at_or_below}
use Rattle.base.specs.RrKey.{key_cmp}
use Rattle.base.specs.declared.dns_class.DNSClass.{DNSClass}
use Rattle.base.specs.declared.rr_key.RrKey.{RrKey}
use Rattle.base_data.specs.declared.rdata.RData.{RData}
use Rattle.op_use.proofs.OwnerKeys.{from, from_is}
use Rattle.op_use.proofs.WalkSteps.{rising}
use Rattle.op_use.specs.OwnerWalk.{entries_from, least}
use Rattle.op_use.specs.Applying.{data_in_set, entry_of, zone_of_map}
use Rattle.op_use.specs.NamedChanges.{set_key}
use Rattle.op_use.specs.Zone.{Datum}
use Rattle.rr.specs.RecordSet.{SetValue, is_soa}
use Rattle.rr.specs.declared.record.Record.{Record}
use Rattle.std.proofs.Common.{ap, append_assoc, refl, subst, sym, ◌++◌, ◌∙◌}
use Rattle.std.proofs.lemmas.Bool.{cond-false, cond-true, false_from_ne_true, false≢true}
use Rattle.std.proofs.lemmas.Map.Keys.{sorted_head, sorted_tail}
use Rattle.std.proofs.lemmas.List.Elements.{All-contains_itself, recursion_from_All}
use Rattle.std.proofs.lemmas.List.{map-append}
use Rattle.std.proofs.lemmas.Map.Views.{btree_map_get_iff}
use Rattle.std.specs.BTreeMap.Range.{entries_between}
use Rattle.std.specs.Cmp.{tied_itself}
use Rattle.std.specs.List.Sorted.{IsStrictlySortedBy}
use Rattle.std.specs.List.{AllByRecursion, filter, flat_map}
use Rattle.std.specs.Map.{keys_of}
use Rattle.std.specs.Ordering.{is_le, ordering_reverse}
use Rattle.std.specs.Prelude.{Bool, List, [], cond, false, map, not, slice_index_or, true, ℕ, ◌&&◌, ◌∷◌, ◌≡◌}
use Rattle.std.specs.declared.cmp.Ordering.TheVariants.{Less}
use Rattle.std.specs.declared.ops.Bound.TheVariants.{Included, Unbounded}
use Rattle.std.specs.BTreeMap.{BTreeMap, IsOrdered}

-- Where entries are in order, those from a key on are an end of them.
abbrev pub IsEnd : List (RrKey × SetValue) → List (RrKey × SetValue) → Type 0
IsEnd all es = (front : List (RrKey × SetValue)) × (all ≡ front ++ es)

from_is_end : (k : RrKey) (es : List (RrKey × SetValue)) → IsStrictlySortedBy key_cmp (keys_of es)
    → IsEnd es (entries_from k es)
from_is_end k [] s = ([], refl)
from_is_end k (e ∷ es) s =
    go (from k e.0) refl (from_is_end k es (sorted_tail key_cmp e.0 (keys_of es) s)) where
      go : (b : Bool) → from k e.0 ≡ b → IsEnd es (entries_from k es) → IsEnd (e ∷ es) (entries_from k (e ∷ es))
      go true t more = ([], rising k e es t s)
      go false t more =
          (e ∷ more.0, ap (λ xs. e ∷ xs) (more.1 ∙ ap (λ xs. more.0 ++ xs) (sym (cond-false _ _ _ t))))

-- of one key after another, the other isn't from it on
not_from : (a k : RrKey) → key_cmp a k ≡ Less → (is_le (key_cmp k a) && true) ≡ false
not_from a k h = ap (λ o. is_le o && true) (key_cmp-total.antisymm k a ∙ ap ordering_reverse h)

to_itself : (k : RrKey) → from k k ≡ true
to_itself k = ap (λ o. is_le o && true) (tied_itself key_cmp-total k)

at_place : (P : RrKey → Type 0) (front : List (RrKey × SetValue)) (e : RrKey × SetValue)
    (es : List (RrKey × SetValue)) → AllByRecursion P (keys_of (front ++ e ∷ es)) → P e.0
at_place P [] e es (h, hs) = h
at_place P (x ∷ front) e es (h, hs) = at_place P front e es hs

-- those from the key of one of them on
from_key : (front : List (RrKey × SetValue)) (e : RrKey × SetValue) (es : List (RrKey × SetValue))
    → IsStrictlySortedBy key_cmp (keys_of (front ++ e ∷ es)) → entries_from e.0 (front ++ e ∷ es) ≡ e ∷ es
from_key [] e es s = sym (rising e.0 e es (to_itself e.0) s)
from_key (x ∷ front) e es s =
    cond-false _ _ _ (not_from x.0 e.0 (at_place (λ q. key_cmp x.0 q ≡ Less) front e es
    (sorted_head key_cmp x.0 (keys_of (front ++ e ∷ es)) s)))
    ∙ from_key front e es (sorted_tail key_cmp x.0 (keys_of (front ++ e ∷ es)) s)

-- ---- a walk over the sets

pub end_begins : (k : RrKey) (s es : List (RrKey × SetValue)) → IsStrictlySortedBy key_cmp (keys_of es)
    → s ≡ entries_between key_cmp (Included k) Unbounded es → IsEnd es s
end_begins k s es sorted is =
    let end = from_is_end k es sorted in
    (end.0, end.1 ∙ ap (λ xs. end.0 ++ xs) (sym is))

pub end_goes_on : (all it es : List (RrKey × SetValue)) (e : RrKey × SetValue) → IsEnd all it → it ≡ e ∷ es
    → IsEnd all es
end_goes_on all it es e end is = (
  end.0 ++ e ∷ [],
  end.1 ∙ ap (λ xs. end.0 ++ xs) is ∙ sym (append_assoc end.0 (e ∷ []) es),
)

pub end_from : (all it es : List (RrKey × SetValue)) (e : RrKey × SetValue) → IsStrictlySortedBy key_cmp (keys_of all)
    → IsEnd all it → it ≡ e ∷ es → entries_between key_cmp (Included e.0) Unbounded all ≡ e ∷ es
end_from all it es e sorted end is =
    let same : all ≡ end.0 ++ e ∷ es = end.1 ∙ ap (λ xs. end.0 ++ xs) is in
    ap (entries_from e.0) same
    ∙ from_key end.0 e es (subst (λ xs. IsStrictlySortedBy key_cmp (keys_of xs)) same sorted)

-- ---- what they give

module _ (origin : NameValue) (class : DNSClass) where
  pub from_first : (es : List (RrKey × SetValue)) → given_from origin class 0 es ≡ flat_map (given origin class 0) es
  from_first [] = refl
  from_first (e ∷ es) = refl

  pub given_none : (j : ℕ) (e : RrKey × SetValue) (es : List (RrKey × SetValue)) → is_between origin e.0 ≡ false
      → given_from origin class j (e ∷ es) ≡ given_from origin class 0 es
  given_none j e es h =
      ap (λ xs. xs ++ flat_map (given origin class 0) es) (cond-false _ _ _ h) ∙ sym (from_first es)

  pub given_some : (j : ℕ) (e : RrKey × SetValue) (es : List (RrKey × SetValue)) → is_between origin e.0 ≡ true
      → given_from origin class j (e ∷ es) ≡ records_from class j e.1 ++ given_from origin class 0 es
  given_some j e es h =
      ap (λ xs. xs ++ flat_map (given origin class 0) es) (cond-true _ _ _ h)
      ∙ ap (λ xs. records_from class j e.1 ++ xs) (sym (from_first es))

  before_none : (e : RrKey × SetValue) → from (least origin) e.0 ≡ false → given origin class 0 e ≡ []
  before_none e f = cond-false _ _ _ (ap (λ b. b && not (is_soa e.0.record_type && same_name e.0.name origin))
      (false_from_ne_true (is_at_or_below origin e.0.name)
      (λ t. false≢true (sym f ∙ from_is origin e.0 ∙ below_le origin e.0.name t))))

  -- nothing is given before the least key of the origin
  from_least : (es : List (RrKey × SetValue))
      → flat_map (given origin class 0) (entries_from (least origin) es) ≡ flat_map (given origin class 0) es
  from_least [] = refl
  from_least (e ∷ es) = go (from (least origin) e.0) refl (from_least es) where
    go : (b : Bool) → from (least origin) e.0 ≡ b
        → flat_map (given origin class 0) (entries_from (least origin) es) ≡ flat_map (given origin class 0) es
        → flat_map (given origin class 0) (entries_from (least origin) (e ∷ es))
        ≡ given origin class 0 e ++ flat_map (given origin class 0) es
    go true t more = ap (flat_map (given origin class 0)) (cond-true _ _ _ t)
        ∙ ap (λ xs. given origin class 0 e ++ xs) more
    go false t more = ap (flat_map (given origin class 0)) (cond-false _ _ _ t) ∙ more
        ∙ sym (ap (λ xs. xs ++ flat_map (given origin class 0) es) (before_none e t))

  pub all_between : (k : RrKey) (es : List (RrKey × SetValue)) → k ≡ least origin
      → given_from origin class 0 (entries_between key_cmp (Included k) Unbounded es)
      ≡ flat_map (given origin class 0) es
  all_between k es is =
      ap (λ q. given_from origin class 0 (entries_between key_cmp (Included q) Unbounded es)) is
      ∙ from_first (entries_from (least origin) es) ∙ from_least es

-- ---- what a transfer gives is the zone's

-- an entry whose set stands under its own key
abbrev IsUnderKey : RrKey × SetValue → Type 0
IsUnderKey e = set_key e.1 ≡ e.0

under_keys : (sets : BTreeMap RrKey SetValue) → IsOrdered key_cmp sets → AreUnderKeys sets
    → AllByRecursion IsUnderKey sets.entries
under_keys sets sorted under = recursion_from_All IsUnderKey sets.entries (λ k d below.
    let e = slice_index_or sets.entries k d in
    under e.0 e.1 ((btree_map_get_iff key_cmp-total key_cmp-exact sets sorted e.0 e.1).1
    (All-contains_itself sets.entries k d below)))

module _ (origin : NameValue) (class : DNSClass) where
  from_set : (k : RrKey) (s : SetValue) → set_key s ≡ k
      → map owner_lowered (records_from class 0 s) ≡ records_of class k.name (data_in_set s)
  from_set k s own = lowered_records class s.name (data_in_set s)
      ∙ ap (λ (q : RrKey). records_of class q.name (data_in_set s)) own

  given_step : (e : RrKey × SetValue) (fs : List (RrKey × List Datum)) (rs : List (Record RData)) (b : Bool)
      → IsUnderKey e → map owner_lowered rs ≡ flat_map (λ (f : RrKey × List Datum). records_of class f.0.name f.1) fs
      → map owner_lowered (cond b (records_from class 0 e.1) [] ++ rs)
      ≡ flat_map (λ (f : RrKey × List Datum). records_of class f.0.name f.1) (cond b (entry_of e ∷ fs) fs)
  given_step e fs rs true own h = map-append owner_lowered (records_from class 0 e.1) rs
      ∙ (λ i. from_set e.0 e.1 own i ++ h i)
  given_step e fs rs false own h = h

  all_given : (es : List (RrKey × SetValue)) → AllByRecursion IsUnderKey es
      → map owner_lowered (flat_map (given origin class 0) es)
      ≡ flat_map (λ (f : RrKey × List Datum). records_of class f.0.name f.1)
      (filter (λ (f : RrKey × List Datum). is_between origin f.0) (map entry_of es))
  all_given [] h = refl
  all_given (e ∷ es) (own, more) =
      given_step e (filter (λ (f : RrKey × List Datum). is_between origin f.0) (map entry_of es))
      (flat_map (given origin class 0) es) (is_between origin e.0) own (all_given es more)

  pub between_is : (sets : BTreeMap RrKey SetValue) → IsOrdered key_cmp sets → AreUnderKeys sets
      → map owner_lowered (between origin class sets) ≡ zone_records (zone_of_map origin class sets)
  between_is sets sorted under =
      all_given sets.entries (under_keys sets sorted under)
      ∙ ap (λ (fs : List (RrKey × List Datum)). flat_map (λ (f : RrKey × List Datum). records_of class f.0.name f.1)
      (filter (λ (f : RrKey × List Datum). is_between origin f.0) fs)) (sym (entries_are sets.entries sorted))
