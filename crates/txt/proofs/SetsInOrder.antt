-- Sets in the order of their keys: what stands after them, the last one, and a run that goes into a map.
use Rattle.std.proofs.Common.{◌≡◌, ◌-◌, [], ◌∷◌, ◌++◌, length, refl, ap, sym, ◌∙◌, subst, arith, append_assoc}
use Rattle.std.proofs.Common.{length-append, suc, Some, None, List}
use Rattle.std.proofs.lemmas.Map.{lookup-none}
use Rattle.std.proofs.lemmas.Map.Entries.{lookup_tail, none_below_head}
use Rattle.std.proofs.lemmas.Map.Keys.{sorted_tail}
use Rattle.std.specs.BTreeMap.{insert_entry, is_at}
use Rattle.std.specs.Cmp.{tied_itself}
use Rattle.std.specs.List.{AllByRecursion, slice_get}
use Rattle.std.specs.List.Sorted.{IsStrictlySortedBy}
use Rattle.std.specs.Map.{keys_of, set_value}
use Rattle.std.specs.Ordering.{is_eq, ordering_reverse}
use Rattle.std.specs.declared.cmp.Ordering.{Ordering}
use Rattle.std.specs.declared.cmp.Ordering.TheVariants.{Less, Equal, Greater}
use Rattle.base.proofs.names.KeyLemmas.{key_cmp-total}
use Rattle.base.specs.RrKey.{key_cmp}
use Rattle.base.specs.declared.rr_key.RrKey.{RrKey}
use Rattle.rr.specs.RecordSet.{SetValue}
use Rattle.txt.specs.Gathered.{HasLastKey}
use Rattle.txt.specs.ZoneSets.{AreKeyed, IsKeyed, ZoneSets, set_at}
use Rattle.std.proofs.lemmas.List.{map-append}
use Rattle.txt.proofs.KeptSets.{append_all}

abbrev pub AreInOrder : ZoneSets → Type 0
AreInOrder sets = IsStrictlySortedBy key_cmp (keys_of sets)

abbrev pub IsAbove : RrKey → ZoneSets → Type 0
IsAbove key sets = AllByRecursion (λ (e : RrKey × SetValue). key_cmp key e.0 ≡ Greater) sets

pub flipped : (a b : RrKey) → key_cmp a b ≡ Less → key_cmp b a ≡ Greater
flipped a b less = key_cmp-total.antisymm b a ∙ ap ordering_reverse less

pub flipped_back : (a b : RrKey) → key_cmp a b ≡ Greater → key_cmp b a ≡ Less
flipped_back a b greater = key_cmp-total.antisymm b a ∙ ap ordering_reverse greater

-- ---- what holds of all
pub front_all : {X : Type 0} (P : X → Type 0) (xs ys : List X) → AllByRecursion P (xs ++ ys) → AllByRecursion P xs
front_all P [] ys h = tt
front_all P (x ∷ xs) ys h = (h.0, front_all P xs ys h.1)

back_all : {X : Type 0} (P : X → Type 0) (xs ys : List X) → AllByRecursion P (xs ++ ys) → AllByRecursion P ys
back_all P [] ys h = h
back_all P (x ∷ xs) ys h = back_all P xs ys h.1

keys_append : (es fs : ZoneSets) → keys_of (es ++ fs) ≡ keys_of es ++ keys_of fs
keys_append es fs = map-append (λ (e : RrKey × SetValue). e.0) es fs

-- ---- in order
pub order_front : (es fs : ZoneSets) → AreInOrder (es ++ fs) → AreInOrder es
unfolding IsStrictlySortedBy
order_front [] fs h = tt
order_front (e ∷ es) fs h = (
  front_all _ (keys_of es) (keys_of fs) (rw (keys_append es fs) at h.0),
  order_front es fs h.1,
)

pub order_back : (es fs : ZoneSets) → AreInOrder (es ++ fs) → AreInOrder fs
unfolding IsStrictlySortedBy
order_back [] fs h = h
order_back (e ∷ es) fs h = order_back es fs h.1

pub order_push : (es : ZoneSets) (key : RrKey) (set : SetValue) → AreInOrder es → IsAbove key es
    → AreInOrder (es ++ (key, set) ∷ [])
unfolding IsStrictlySortedBy
order_push [] key set h k = (tt, tt)
order_push (e ∷ es) key set h k = (
  rw (keys_append es ((key, set) ∷ [])) (append_all _ (keys_of es) (key ∷ []) h.0 (flipped_back key e.0 k.0, tt)),
  order_push es key set h.1 k.1,
)

-- the last key is above those before it
pub last_above : (es : ZoneSets) (key : RrKey) (set : SetValue) → AreInOrder (es ++ (key, set) ∷ []) → IsAbove key es
unfolding IsStrictlySortedBy
last_above [] key set h = tt
last_above (e ∷ es) key set h = (
  flipped e.0 key (back_all _ (keys_of es) (key ∷ []) (rw (keys_append es ((key, set) ∷ [])) at h.0)).0,
  last_above es key set h.1,
)

-- what is above the last key is above all
pub above_all : (k : RrKey) (es : ZoneSets) (key : RrKey) (set : SetValue) → AreInOrder (es ++ (key, set) ∷ [])
    → key_cmp k key ≡ Greater → IsAbove k (es ++ (key, set) ∷ [])
unfolding IsStrictlySortedBy
above_all k [] key set h g = (g, tt)
above_all k (e ∷ es) key set h g =
    let below : key_cmp e.0 key ≡ Less = (back_all _ (keys_of es) (key ∷ [])
    (rw (keys_append es ((key, set) ∷ [])) at h.0)).0 in
    (flipped e.0 k (key_cmp-total.trans e.0 key k below (flipped_back k key g)), above_all k es key set h.1 g)

-- the last of a list, and those before it
pub split_last : (es : ZoneSets) (e : RrKey × SetValue) → slice_get es (length es - 1) ≡ Some e
    → (front : ZoneSets) × (es ≡ front ++ e ∷ [])
split_last [] e is = absurd cc
split_last (x ∷ []) e is = ([], cc)
split_last (x ∷ y ∷ ys) e is =
    let at : length (x ∷ y ∷ ys) - 1 ≡ suc (length (y ∷ ys) - 1) = omega arith in
    let r = split_last (y ∷ ys) e (ap (slice_get (x ∷ y ∷ ys)) (sym at) ∙ is) in
    (x ∷ r.0, cc r.1)

last_of : (es : ZoneSets) (e : RrKey × SetValue) → slice_get (es ++ e ∷ []) (length (es ++ e ∷ []) - 1) ≡ Some e
last_of [] e = refl
last_of (x ∷ es) e =
    let at : length (x ∷ (es ++ e ∷ [])) - 1 ≡ suc (length (es ++ e ∷ []) - 1) =
    omega (arith, length-append es (e ∷ [])) in
    ap (slice_get (x ∷ (es ++ e ∷ []))) at ∙ last_of es e

pub last_key : (front : ZoneSets) (e : RrKey × SetValue) → HasLastKey (front ++ e ∷ []) e.0
last_key front e = λ x at. let same : Some e ≡ Some x = sym (last_of front e) ∙ at in cc

-- the entry that stands after the others is the last one
pub one_last : (fs front : ZoneSets) (e : RrKey × SetValue) (key : RrKey) (set : SetValue) → fs ≡ front ++ e ∷ []
    → slice_get fs (length fs - 1) ≡ Some (key, set)
    → fs ≡ front ++ (key, e.1) ∷ []
one_last fs front e key set is at =
    let same : Some e ≡ Some (key, set) = sym (last_of front e)
    ∙ ap (λ (zs : ZoneSets). slice_get zs (length zs - 1)) (sym is) ∙ at in
    let one : e.0 ≡ key = cc in
    is ∙ ap (λ (k : RrKey). front ++ (k, e.1) ∷ []) one

-- what is above the last one is above all of a list
pub above_by_last : (k : RrKey) (es fs : ZoneSets) (e : RrKey × SetValue) → AreInOrder (es ++ fs)
    → slice_get fs (length fs - 1) ≡ Some e → key_cmp k e.0 ≡ Greater → IsAbove k (es ++ fs)
above_by_last k es fs e order at g =
    let parts = split_last fs e at in
    let whole : es ++ fs ≡ (es ++ parts.0) ++ e ∷ [] =
    ap (λ (zs : ZoneSets). es ++ zs) parts.1 ∙ sym (append_assoc es parts.0 (e ∷ [])) in
    subst (IsAbove k) (sym whole) (above_all k (es ++ parts.0) e.0 e.1 (subst AreInOrder whole order) g)

-- ---- a key above all
pub none_there : (es : ZoneSets) (key : RrKey) → IsAbove key es → set_at es key ≡ None
none_there [] key h = refl
none_there (e ∷ es) key h = rw h.0 (none_there es key h.1)

pub inserted_after : (es : ZoneSets) (key : RrKey) (set : SetValue) → IsAbove key es
    → insert_entry key_cmp es key set ≡ es ++ (key, set) ∷ []
inserted_after [] key set h = refl
inserted_after (e ∷ es) key set h = rw h.0 (ap (λ (zs : ZoneSets). e ∷ zs) (inserted_after es key set h.1))

-- ---- the last key
pub found_last : (es : ZoneSets) (key : RrKey) (set : SetValue) → IsAbove key es
    → set_at (es ++ (key, set) ∷ []) key ≡ Some set
found_last [] key set h = let own : key_cmp key key ≡ Equal = tied_itself key_cmp-total key in rw own refl
found_last (e ∷ es) key set h = rw h.0 (found_last es key set h.1)

pub set_last : (es : ZoneSets) (key : RrKey) (set new : SetValue) → IsAbove key es
    → set_value (is_at (key_cmp key)) (es ++ (key, set) ∷ []) new ≡ es ++ (key, new) ∷ []
set_last [] key set new h = let own : key_cmp key key ≡ Equal = tied_itself key_cmp-total key in rw own refl
set_last (e ∷ es) key set new h = rw h.0 (ap (λ (zs : ZoneSets). e ∷ zs) (set_last es key set new h.1))

-- ---- what the fields of the sets keep
pub kept_last : (es fs : ZoneSets) (e : RrKey × SetValue) → AreKeyed (es ++ (fs ++ e ∷ [])) → IsKeyed e.0 e.1
kept_last es fs e kept = (back_all _ (es ++ fs) (e ∷ []) (subst AreKeyed (sym (append_assoc es fs (e ∷ []))) kept)).0

-- ---- a run that goes into a map
-- a set goes before those above it
put_first : (fs : ZoneSets) (key : RrKey) (set : SetValue) → AreInOrder ((key, set) ∷ fs)
    → insert_entry key_cmp fs key set ≡ (key, set) ∷ fs
unfolding IsStrictlySortedBy
put_first [] key set order = refl
put_first (f ∷ fs) key set order = rw order.0.0 refl

-- where the last of those that are left goes into the map of those after it, the run stays whole
pub one_more_put : (run whole left : ZoneSets) (e : RrKey × SetValue) (rest more : ZoneSets) → AreInOrder run
    → left ++ whole ≡ run → left ≡ rest ++ e ∷ [] → more ≡ insert_entry key_cmp whole e.0 e.1 → rest ++ more ≡ run
one_more_put run whole left e rest more order is last put =
    let all : rest ++ e ∷ whole ≡ run = sym (append_assoc rest (e ∷ []) whole)
    ∙ ap (λ (zs : ZoneSets). zs ++ whole) (sym last) ∙ is in
    let above : AreInOrder (e ∷ whole) = order_back rest (e ∷ whole) (subst AreInOrder (sym all) order) in
    ap (λ (zs : ZoneSets). rest ++ zs) (put ∙ put_first whole e.0 e.1 above) ∙ all

-- a key before the first is not there
pub none_before : (key : RrKey) (e : RrKey × SetValue) (es : ZoneSets) → AreInOrder (e ∷ es) → key_cmp key e.0 ≡ Less
    → set_at (e ∷ es) key ≡ None
none_before key e es order less =
    lookup-none (is_at (key_cmp key)) (e ∷ es) (none_below_head key_cmp-total key e es order less)

-- a set under a key that is there takes the place of the one there
pub put_there : (es : ZoneSets) (key : RrKey) (old new : SetValue) → AreInOrder es → set_at es key ≡ Some old
    → insert_entry key_cmp es key new ≡ set_value (is_at (key_cmp key)) es new
put_there [] key old new order there = absurd cc
put_there (e ∷ es) key old new order there =
    go (key_cmp key e.0) refl (put_there es key old new (sorted_tail key_cmp e.0 (keys_of es) order)) where
      go : (o : Ordering) → key_cmp key e.0 ≡ o
          → (set_at es key ≡ Some old → insert_entry key_cmp es key new ≡ set_value (is_at (key_cmp key)) es new)
          → insert_entry key_cmp (e ∷ es) key new ≡ set_value (is_at (key_cmp key)) (e ∷ es) new
      go Less is again = absurd (cc (there, none_before key e es order is))
      go Equal is again = rw is refl
      go Greater is again =
          let later = sym (lookup_tail (is_at (key_cmp key)) e es (ap is_eq is)) ∙ there in
          rw is (ap (λ (zs : ZoneSets). e ∷ zs) (again later))
