-- The sets that records make don't depend on the order of records of other keys.
use Rattle.std.proofs.Common.{◌≡◌, List, [], ◌∷◌, ◌++◌, ◌+◌, arith, suc, refl, ap, sym, ◌∙◌, subst, Bool, true, false}
use Rattle.std.proofs.Common.{Some, None, Option, Ok}
use Rattle.std.specs.BTreeMap.{insert_entry, is_at}
use Rattle.std.specs.Cmp.{tied_itself}
use Rattle.std.specs.List.{AllByRecursion, filter}
use Rattle.std.specs.List.Sorted.{IsSortedBy, IsStrictlySortedBy, IsStableBy, ties}
use Rattle.std.specs.Map.{keys_of, lookup}
use Rattle.std.specs.Ordering.{is_lt}
use Rattle.std.specs.Prelude.{◌≢◌, cond, is_some, ⊤}
use Rattle.std.specs.declared.cmp.Ordering.{Ordering}
use Rattle.std.specs.declared.cmp.Ordering.TheVariants.{Less, Equal, Greater}
use Rattle.base.proofs.names.KeyLemmas.{key_cmp-exact, key_cmp-total}
use Rattle.base.specs.RrKey.{key_cmp}
use Rattle.base.specs.declared.rr_key.RrKey.{RrKey}
use Rattle.base_data.specs.declared.rdata.RData.{RData}
use Rattle.base_data.specs.Kinds.{type_of_data}
use Rattle.rr.specs.RecordSet.{SetValue, is_soa, set_of}
use Rattle.rr.specs.SetChanges.{insert}
use Rattle.rr.specs.declared.record.Record.{Record}
use Rattle.txt.specs.Gathered.{ComesAfter, HasLastKey, IsAscending, KeyedRecords, KnowsSoas, gathered, joined_set}
use Rattle.txt.specs.Gathered.{with_all, with_keyed}
use Rattle.txt.specs.ZoneSets.{AreKeyed, IsKeyed, ZoneSets, sets_with, set_at}
use Rattle.rr.specs.Record.{record_key}
use Rattle.txt.proofs.KeptSets.{insert_kept, new_kept, same_key, append_all}
use Rattle.txt.proofs.SetsInOrder.{AreInOrder, IsAbove, flipped_back, found_last, inserted_after, kept_last, last_above}
use Rattle.txt.proofs.SetsInOrder.{last_key, none_there, order_front, order_push, put_there, set_last, none_before}
use Rattle.txt.proofs.SetsInOrder.{front_all}
use Rattle.std.proofs.lemmas.List.Elements.{filter_agree}
use Rattle.std.proofs.lemmas.Bool.Decides.{nat_tests}

swapped : {X : Type 0} (a b : Bool) → (a ≡ true → b ≡ true → ⊥) → (x y : Option X) (rest : Option X)
    → cond a x (cond b y rest) ≡ cond b y (cond a x rest)
swapped true true apart x y rest = absurd (apart refl refl)
swapped true false apart x y rest = refl
swapped false true apart x y rest = refl
swapped false false apart x y rest = refl

twice : {X : Type 0} (a : Bool) (x y rest : Option X) → cond a x rest ≡ cond a x (cond a y rest)
twice true x y rest = refl
twice false x y rest = refl

-- what is found under a key after an entry was put under one
pub lookup_put : {X : Type 0} (es : List (RrKey × X)) (key : RrKey) (v : X) (k : RrKey)
    → lookup (is_at (key_cmp k)) (insert_entry key_cmp es key v) ≡ cond (is_at (key_cmp k) key) (Some v)
    (lookup (is_at (key_cmp k)) es)
lookup_put [] key v k = refl
lookup_put {X} (e ∷ es) key v k = go (key_cmp key e.0) refl (lookup_put es key v k) where
  at : RrKey → Bool
  at = is_at (key_cmp k)

  go : (o : Ordering) → key_cmp key e.0 ≡ o
      → lookup at (insert_entry key_cmp es key v) ≡ cond (at key) (Some v) (lookup at es)
      → lookup at (insert_entry key_cmp (e ∷ es) key v) ≡ cond (at key) (Some v) (lookup at (e ∷ es))
  go Less is again = rw is refl
  go Equal is again =
      let same : at e.0 ≡ at key = ap at (sym (key_cmp-exact key e.0 is)) in
      rw (is, same) (twice (at key) (Some v) (Some e.1) (lookup at es))
  go Greater is again =
      let apart : at e.0 ≡ true → at key ≡ true → ⊥ = λ one other.
      (let same : key ≡ e.0 = sym (same_key k key other) ∙ same_key k e.0 one in
      let no : Greater ≡ Equal = sym is ∙ ap (key_cmp key) (sym same) ∙ tied_itself key_cmp-total key in cc) in
      rw is (ap (cond (at e.0) (Some e.1)) again ∙ swapped (at e.0) (at key) apart (Some e.1) (Some v) (lookup at es))

-- ---- in order
below_all : (a b : RrKey) → key_cmp a b ≡ Less → (ks : List RrKey) → AllByRecursion (λ q. key_cmp b q ≡ Less) ks
    → AllByRecursion (λ q. key_cmp a q ≡ Less) ks
below_all a b less [] h = tt
below_all a b less (k ∷ ks) h = (key_cmp-total.trans a b k less h.0, below_all a b less ks h.1)

keys_put : (P : RrKey → Type 0) (es : ZoneSets) (key : RrKey) (set : SetValue) → AllByRecursion P (keys_of es) → P key
    → AllByRecursion P (keys_of (insert_entry key_cmp es key set))
keys_put P [] key set h k = (k, tt)
keys_put P (e ∷ es) key set h k = go (key_cmp key e.0) refl (keys_put P es key set h.1 k) where
  go : (o : Ordering) → key_cmp key e.0 ≡ o → AllByRecursion P (keys_of (insert_entry key_cmp es key set))
      → AllByRecursion P (keys_of (insert_entry key_cmp (e ∷ es) key set))
  go Less is again = rw is (k, h)
  go Equal is again = rw is h
  go Greater is again = rw is (h.0, again)

pub order_put : (es : ZoneSets) (key : RrKey) (set : SetValue) → AreInOrder es
    → AreInOrder (insert_entry key_cmp es key set)
unfolding IsStrictlySortedBy
order_put [] key set order = (tt, tt)
order_put (e ∷ es) key set order = go (key_cmp key e.0) refl (order_put es key set order.1) where
  go : (o : Ordering) → key_cmp key e.0 ≡ o → AreInOrder (insert_entry key_cmp es key set)
      → AreInOrder (insert_entry key_cmp (e ∷ es) key set)
  go Less is again = rw is ((is, below_all key e.0 is (keys_of es) order.0), order)
  go Equal is again = rw is order
  go Greater is again = rw is (keys_put (λ q. key_cmp e.0 q ≡ Less) es key set order.0 (flipped_back key e.0 is), again)

order_all : (sets : ZoneSets) (es : KeyedRecords) → AreInOrder sets → AreInOrder (with_all sets es)
order_all sets [] order = order
order_all sets (e ∷ es) order = order_all (with_keyed sets e) es
    (order_put sets e.0 (joined_set (set_at sets e.0) e.1) order)

pub none_in_order : AreInOrder []
unfolding IsStrictlySortedBy
none_in_order = tt

pub gathered_in_order : (es : KeyedRecords) → AreInOrder (gathered es)
gathered_in_order es = order_all [] es none_in_order

-- ---- sets in order are those that are found
none_at : (e : RrKey × SetValue) (es : ZoneSets) → AreInOrder (e ∷ es) → (key : RrKey)
    → is_at (key_cmp key) e.0 ≡ true → set_at es key ≡ None
unfolding IsStrictlySortedBy
none_at e es order key is = rw (same_key key e.0 is) (go es order.0) where
  go : (fs : ZoneSets) → AllByRecursion (λ q. key_cmp e.0 q ≡ Less) (keys_of fs) → set_at fs e.0 ≡ None
  go [] h = refl
  go (f ∷ fs) h = rw h.0 (go fs h.1)

found_first : (e : RrKey × SetValue) (es : ZoneSets) → set_at (e ∷ es) e.0 ≡ Some e.1
found_first e es = rw (tied_itself key_cmp-total e.0) refl

same_lookups : (xs ys : ZoneSets) → AreInOrder xs → AreInOrder ys → ((key : RrKey) → set_at xs key ≡ set_at ys key)
    → xs ≡ ys
unfolding IsStrictlySortedBy
same_lookups [] [] xo yo h = refl
same_lookups [] (y ∷ ys) xo yo h = absurd (cc (h y.0, found_first y ys))
same_lookups (x ∷ xs) [] xo yo h = absurd (cc (h x.0, found_first x xs))
same_lookups ((k, a) ∷ xs) ((l, b) ∷ ys) xo yo h = go (key_cmp k l) refl (same_lookups xs ys xo.1 yo.1) where
  go : (o : Ordering) → key_cmp k l ≡ o → (((key : RrKey) → set_at xs key ≡ set_at ys key) → xs ≡ ys)
      → (k, a) ∷ xs ≡ (l, b) ∷ ys
  go Less is again = absurd (cc (h k, found_first (k, a) xs, none_before k (l, b) ys yo is))
  go Greater is again =
      absurd (cc (h l, found_first (l, b) ys, none_before l (k, a) xs xo (flipped_back k l is)))
  go Equal is again =
      let same : k ≡ l = key_cmp-exact k l is in
      let one : a ≡ b = cc (h k, found_first (k, a) xs, found_first (l, b) ys) in
      let others = again (λ key. grind (arith, nat_tests, h key, none_at (k, a) xs xo key, none_at (l, b) ys yo key)) in
      cc

-- ---- what is found
joined_all : Option SetValue → KeyedRecords → Option SetValue
joined_all found [] = found
joined_all found (e ∷ es) = joined_all (Some (joined_set found e.1)) es

of_key : RrKey → RrKey × Record RData → Bool
of_key key e = is_at (key_cmp key) e.0

found_all : (sets : ZoneSets) (es : KeyedRecords) (key : RrKey)
    → set_at (with_all sets es) key ≡ joined_all (set_at sets key) (filter (of_key key) es)
unfolding joined_all of_key
found_all sets [] key = refl
found_all sets (e ∷ es) key = found_all (with_keyed sets e) es key
    ∙ rw (lookup_put sets e.0 (joined_set (set_at sets e.0) e.1) key) (go (is_at (key_cmp key) e.0) refl) where
      go : (b : Bool) → is_at (key_cmp key) e.0 ≡ b
          → joined_all (cond b (Some (joined_set (set_at sets e.0) e.1)) (set_at sets key)) (filter (of_key key) es)
          ≡ joined_all (set_at sets key) (cond b (e ∷ filter (of_key key) es) (filter (of_key key) es))
      go true is = ap (λ q. joined_all (Some (joined_set (set_at sets q) e.1)) (filter (of_key key) es))
          (sym (same_key key e.0 is))
      go false is = refl

-- ---- records in another order
abbrev pub is_below : RrKey × Record RData → RrKey × Record RData → Bool
is_below a b = is_lt (key_cmp a.0 b.0)

ties_at : (a b : RrKey × Record RData) → ties is_below a b ≡ is_at (key_cmp a.0) b.0
ties_at a b = go (key_cmp a.0 b.0) refl where
  go : (o : Ordering) → key_cmp a.0 b.0 ≡ o → ties is_below a b ≡ is_at (key_cmp a.0) b.0
  go Less is = rw is refl
  go Equal is = rw (is, key_cmp-total.antisymm b.0 a.0, is) refl
  go Greater is = rw (is, flipped_back a.0 b.0 is) refl

filters : (r : Record RData) (xs ys : KeyedRecords) → IsStableBy is_below xs ys → (key : RrKey)
    → filter (of_key key) ys ≡ filter (of_key key) xs
unfolding of_key
filters r xs ys stable key =
    filter_agree (of_key key) (ties is_below (key, r)) (λ e. sym (ties_at (key, r) e)) ys ∙ stable (key, r)
    ∙ filter_agree (ties is_below (key, r)) (of_key key) (λ e. ties_at (key, r) e) xs

alike : (xs ys : KeyedRecords) → ((key : RrKey) → filter (of_key key) ys ≡ filter (of_key key) xs)
    → gathered ys ≡ gathered xs
alike xs ys same =
    same_lookups (gathered ys) (gathered xs) (gathered_in_order ys) (gathered_in_order xs)
    (λ key. found_all [] ys key ∙ ap (joined_all None) (same key) ∙ sym (found_all [] xs key))

-- records that stand in another order, those of one key in the same, make the same sets
pub gathered_stable : (xs ys : KeyedRecords) → IsStableBy is_below xs ys → gathered ys ≡ gathered xs
gathered_stable [] [] stable = refl
gathered_stable (x ∷ xs) ys stable = alike (x ∷ xs) ys (filters x.1 (x ∷ xs) ys stable)
gathered_stable [] (y ∷ ys) stable = alike [] (y ∷ ys) (filters y.1 [] (y ∷ ys) stable)

-- ---- one record more
pub with_last : (sets : ZoneSets) (es : KeyedRecords) (e : RrKey × Record RData)
    → with_all sets (es ++ e ∷ []) ≡ with_keyed (with_all sets es) e
with_last sets [] e = refl
with_last sets (x ∷ es) e = with_last (with_keyed sets x) es e

-- a record of the last key joins the last set
pub joined_last : (sets : ZoneSets) (key : RrKey) (set : SetValue) (r : Record RData)
    → AreInOrder (sets ++ (key, set) ∷ [])
    → with_keyed (sets ++ (key, set) ∷ []) (key, r) ≡ sets ++ (key, (insert set r 0).1) ∷ []
joined_last sets key set r order =
    let above : IsAbove key sets = last_above sets key set order in
    let there = found_last sets key set above in
    ap (λ o. insert_entry key_cmp (sets ++ (key, set) ∷ []) key (joined_set o r)) there
    ∙ put_there (sets ++ (key, set) ∷ []) key set (insert set r 0).1 order there
    ∙ set_last sets key set (insert set r 0).1 above

-- a record above all makes a set after the others
pub new_last : (sets : ZoneSets) (key : RrKey) (r : Record RData) → IsAbove key sets
    → with_keyed sets (key, r) ≡ sets ++ (key, set_of r) ∷ []
new_last sets key r above =
    ap (λ o. insert_entry key_cmp sets key (joined_set o r)) (none_there sets key above)
    ∙ inserted_after sets key (set_of r) above

-- ---- what a record makes of the sets
added_new : (sets : ZoneSets) (r : Record RData) → set_at sets (record_key r) ≡ None
    → sets_with sets r ≡ Ok (with_keyed sets (record_key r, r))
added_new sets r none = rw none refl

pub added_other : (sets : ZoneSets) (r : Record RData) → is_soa (type_of_data r.rdata) ≡ false → AreInOrder sets
    → sets_with sets r ≡ Ok (with_keyed sets (record_key r, r))
added_other sets r other order = go (set_at sets (record_key r)) refl where
  go : (o : Option SetValue) → set_at sets (record_key r) ≡ o
      → sets_with sets r ≡ Ok (with_keyed sets (record_key r, r))
  go None none = added_new sets r none
  go (Some set) there =
      rw (there, other) (ap Ok (sym (put_there sets (record_key r) set (insert set r 0).1 order there)))

none_of : {X : Type 0} (o : Option X) → is_some o ≡ false → o ≡ None
none_of None is = refl
none_of (Some x) is = absurd cc

pub added_unknown : (sets : ZoneSets) (r : Record RData) → is_some (set_at sets (record_key r)) ≡ false
    → sets_with sets r ≡ Ok (with_keyed sets (record_key r, r))
added_unknown sets r none = added_new sets r (none_of (set_at sets (record_key r)) none)

-- ---- the keys of SOA records
found_after : (es : KeyedRecords) (e : RrKey × Record RData) (key : RrKey)
    → set_at (gathered (es ++ e ∷ [])) key ≡ cond (is_at (key_cmp key) e.0)
    (Some (joined_set (set_at (gathered es) e.0) e.1)) (set_at (gathered es) key)
found_after es e key = ap (λ (zs : ZoneSets). set_at zs key) (with_last [] es e)
    ∙ lookup_put (gathered es) e.0 (joined_set (set_at (gathered es) e.0) e.1) key

pub knows_other : (soas : List (RrKey × ⊤)) (es : KeyedRecords) (e : RrKey × Record RData)
    → is_soa e.0.record_type ≡ false → KnowsSoas soas es → KnowsSoas soas (es ++ e ∷ [])
knows_other soas es e other knows key soa = knows key soa ∙ sym (go (is_at (key_cmp key) e.0) refl) where
  go : (b : Bool) → is_at (key_cmp key) e.0 ≡ b
      → is_some (set_at (gathered (es ++ e ∷ [])) key) ≡ is_some (set_at (gathered es) key)
  go true is =
      let both : is_soa key.record_type ≡ false =
      ap (λ (k : RrKey). is_soa k.record_type) (same_key key e.0 is) ∙ other in
      let clash : true ≡ false = sym soa ∙ both in absurd cc
  go false is = ap is_some (found_after es e key
      ∙ ap (λ b. cond b (Some (joined_set (set_at (gathered es) e.0) e.1)) (set_at (gathered es) key)) is)

pub knows_new : (soas : List (RrKey × ⊤)) (es : KeyedRecords) (e : RrKey × Record RData) (u : ⊤) → KnowsSoas soas es
    → KnowsSoas (insert_entry key_cmp soas e.0 u) (es ++ e ∷ [])
knows_new soas es e u knows key soa = ap is_some (lookup_put soas e.0 u key)
    ∙ go (is_at (key_cmp key) e.0) (knows key soa) ∙ sym (ap is_some (found_after es e key)) where
      go : (b : Bool) → is_some (lookup (is_at (key_cmp key)) soas) ≡ is_some (set_at (gathered es) key)
          → is_some (cond b (Some u) (lookup (is_at (key_cmp key)) soas)) ≡ is_some
          (cond b (Some (joined_set (set_at (gathered es) e.0) e.1)) (set_at (gathered es) key))
      go true same = refl
      go false same = same

-- ---- a run with one record more
-- what a record makes of a run
pub record IsGrown (run : ZoneSets) (key : RrKey) (r : Record RData) (after : ZoneSets) : Type 0 where
  pub sets : after ≡ with_keyed run (key, r)
  pub kept : AreKeyed after
  pub ordered : AreInOrder after
  pub last : HasLastKey after key

-- a record that joins the last set
pub joins : (run front : ZoneSets) (key : RrKey) (set new : SetValue) (r : Record RData)
    → run ≡ front ++ (key, set) ∷ [] → key ≡ record_key r
    → new ≡ (insert set r 0).1 → AreKeyed run → AreInOrder run → (after : ZoneSets) → after ≡ front ++ (key, new) ∷ []
    → IsGrown run key r after
joins run front key set new r is own_key changed kept order after made =
    let there : AreKeyed (front ++ (key, set) ∷ []) = subst AreKeyed is kept in
    let in_order : AreInOrder (front ++ (key, set) ∷ []) = subst AreInOrder is order in
    let old : IsKeyed (record_key r) set = subst (λ (k : RrKey). IsKeyed k set) own_key
    (kept_last [] front (key, set) there) in
    let one : IsKeyed key new = subst (λ (k : RrKey). IsKeyed k new) (sym own_key)
    (subst (IsKeyed (record_key r)) (sym changed) (insert_kept set r old)) in
    record {
      sets = made ∙ ap (λ (s : SetValue). front ++ (key, s) ∷ []) changed ∙ sym (joined_last front key set r in_order)
          ∙ ap (λ (zs : ZoneSets). with_keyed zs (key, r)) (sym is);
      kept = subst AreKeyed (sym made) (append_all _ front ((key, new) ∷ []) (front_all _ front ((key, set) ∷ []) there)
          (one, tt));
      ordered = subst AreInOrder (sym made) (order_push front key new (order_front front ((key, set) ∷ []) in_order)
          (last_above front key set in_order));
      last = subst (λ (zs : ZoneSets). HasLastKey zs key) (sym made) (last_key front (key, new));
    }

-- a record above all
pub follows : (run : ZoneSets) (key : RrKey) (set : SetValue) (r : Record RData) → key ≡ record_key r → set ≡ set_of r
    → IsAbove key run
    → AreKeyed run → AreInOrder run → (after : ZoneSets) → after ≡ run ++ (key, set) ∷ [] → IsGrown run key r after
follows run key set r own_key is above kept order after made =
    let one : IsKeyed key set = subst (λ (k : RrKey). IsKeyed k set) (sym own_key)
    (subst (IsKeyed (record_key r)) (sym is) (new_kept r)) in
    record {
      sets = made ∙ ap (λ (s : SetValue). run ++ (key, s) ∷ []) is ∙ sym (new_last run key r above);
      kept = subst AreKeyed (sym made) (append_all _ run ((key, set) ∷ []) kept (one, tt));
      ordered = subst AreInOrder (sym made) (order_push run key set order above);
      last = subst (λ (zs : ZoneSets). HasLastKey zs key) (sym made) (last_key run (key, set));
    }

-- the first of these records doesn't come before the last set
abbrev pub FirstFollows : ZoneSets → KeyedRecords → Type 0
FirstFollows run [] = ⊤
FirstFollows run (e ∷ es) = ComesAfter run e.0

pub none_follows : (es : KeyedRecords) → FirstFollows [] es
none_follows [] = tt
none_follows (e ∷ es) = λ x at. let none : None ≡ Some x = at in absurd cc

pub first_follows : (run : ZoneSets) (e : RrKey × Record RData) (es : KeyedRecords) → IsAscending (e ∷ es)
    → HasLastKey run e.0 → FirstFollows run es
first_follows run e [] up last = tt
first_follows run e (f ∷ es) up last = λ x at. subst (λ (k : RrKey). key_cmp f.0 k ≢ Less) (sym (last x at)) up.0

pub ascends_after : (e : RrKey × Record RData) (es : KeyedRecords) → IsAscending (e ∷ es) → IsAscending es
ascends_after e [] up = tt
ascends_after e (f ∷ es) up = up.1

-- records that were sorted ascend
pub ascending : (es : KeyedRecords) → IsSortedBy is_below es → IsAscending es
ascending [] sorted = tt
ascending (e ∷ []) sorted = tt
ascending (e ∷ f ∷ es) sorted = (
  λ less. cc (sorted 0 e (omega arith) (omega arith)),
  ascending (f ∷ es) (λ k d from to.
      let next : suc k + 1 ≡ suc (k + 1) = omega arith in
      rw next at (sorted (suc k) d (omega arith) (omega (arith, to)))),
)
