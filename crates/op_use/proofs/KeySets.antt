-- Which keys are in a map, and what a map has after entries are put or taken out one after the other.
use Rattle.base.proofs.names.KeyLemmas.{key_cmp-total}
use Rattle.base.specs.RrKey.{key_cmp}
use Rattle.base.specs.declared.rr_key.RrKey.{RrKey}
use Rattle.op_use.proofs.ZoneSteps.{same_key, tied}
use Rattle.base_data.specs.declared.rdata.RData.{RData}
use Rattle.op_use.specs.MapUpdates.{has_key}
use Rattle.op_use.specs.Outcome.{each}
use Rattle.rr.specs.declared.record.Record.{Record}
use Rattle.std.specs.Borrow.{Bor}
use Rattle.op_use.specs.Zone.{is_owned}
use Rattle.base.specs.names.Labels.{NameValue}
use Rattle.std.proofs.Common.{ap, arith, refl, subst, sym, ◌∙◌}
use Rattle.std.proofs.Math.Bool.{or-false, or-true}
use Rattle.std.proofs.lemmas.Bool.{true≢false}
use Rattle.std.proofs.lemmas.List.Folds.{list_any-append}
use Rattle.std.proofs.lemmas.List.{map-append, take_more}
use Rattle.std.proofs.lemmas.Map.Made.{is_some-lookup}
use Rattle.std.proofs.lemmas.Map.Views.{any-filter_same}
use Rattle.std.specs.BTreeMap as tree
use Rattle.std.specs.BTreeMap.{BTreeMap, is_at}
use Rattle.std.specs.Cmp.{eq_by_cmp_equiv}
use Rattle.std.specs.List.{filter}
use Rattle.std.specs.Map.{keys_of, lookup}
use Rattle.std.specs.Ordering.{eq_by_cmp}
use Rattle.std.specs.Prelude.{Bool, List, None, Option, [], cond, false, is_some, length, slice_index_or, take}
use Rattle.std.specs.Prelude.{true, ℕ, ◌&&◌, ◌++◌, ◌+◌, ◌<◌, ◌||◌, ◌∷◌, ◌≡◌}

-- what holds of a key and of all others
pub each_key : (P : RrKey → Type 0) (k : RrKey) → P k → ((q : RrKey) → eq_by_cmp key_cmp k q ≡ false → P q)
    → (q : RrKey) → P q
each_key P k here others q = by (eq_by_cmp key_cmp k q) refl where
  by : (b : Bool) → eq_by_cmp key_cmp k q ≡ b → P q
  by true e = subst P (same_key k q e) here
  by false e = others q e

-- the items so far and one more
pub one_taken : {X : Type 0} (xs : List X) (i : ℕ) (x : X) → i < length xs → x ≡ slice_index_or xs i x
    → take i xs ++ x ∷ [] ≡ take (i + 1) xs
one_taken xs i x h e = ap (λ y. take i xs ++ y ∷ []) e ∙ sym (take_more xs i x h)

-- the same of what is lent
pub one_lent : (rs : List (Bor (Record RData))) (i : ℕ) (r : Bor (Record RData)) → i < length rs
    → r ≡ slice_index_or rs i r → each (take i rs) ++ r.now ∷ [] ≡ each (take (i + 1) rs)
one_lent rs i r h e = sym (map-append (λ (x : Bor (Record RData)). x.now) (take i rs) (r ∷ []))
    ∙ ap each (one_taken rs i r h e)

-- no item is left
pub emptied : {X : Type 0} (xs : List X) → (0 < length xs → false ≡ true) → xs ≡ []
emptied [] h = refl
emptied (x ∷ xs) h = absurd (true≢false (sym (h (omega arith))))

-- one key more
pub last_here : (k : RrKey) (ks : List RrKey) → has_key k (ks ++ k ∷ []) ≡ true
last_here k ks = list_any-append (eq_by_cmp key_cmp k) ks (k ∷ [])
    ∙ ap (λ b. has_key k ks || (b || false)) (tied k) ∙ or-true (has_key k ks)

pub last_beside : (k q : RrKey) (ks : List RrKey) → eq_by_cmp key_cmp k q ≡ false
    → has_key q (ks ++ k ∷ []) ≡ has_key q ks
last_beside k q ks e = list_any-append (eq_by_cmp key_cmp q) ks (k ∷ [])
    ∙ ap (λ b. has_key q ks || (b || false)) ((eq_by_cmp_equiv key_cmp-total).symm q k ∙ e) ∙ or-false (has_key q ks)

module _ {X : Type 0} where
  -- a key is in a map where something stands under it
  pub key_in : (q : RrKey) (es : List (RrKey × X)) → has_key q (keys_of es) ≡ is_some (lookup (is_at (key_cmp q)) es)
  key_in q es = sym (is_some-lookup (is_at (key_cmp q)) es)

  -- so is one of an owner's
  pub owned_key : (owner : NameValue) (q : RrKey) (m : BTreeMap RrKey X)
      → has_key q (filter (λ k. is_owned owner k) (tree.keys m)) ≡ (is_owned owner q && is_some (tree.get key_cmp m q))
  owned_key owner q m = any-filter_same (eq_by_cmp key_cmp q) (λ k. is_owned owner k) (is_owned owner q)
      (λ k e. ap (λ x. is_owned owner x) (sym (same_key q k e))) (tree.keys m)
      ∙ ap (λ b. is_owned owner q && b) (key_in q m.entries)

  pub none_in : (m : BTreeMap RrKey X) (q : RrKey) → m.entries ≡ [] → tree.get key_cmp m q ≡ None
  none_in m q none = ap (lookup (is_at (key_cmp q))) none

  -- the new map has o under a key, and else what the old one has
  abbrev pub Sets : RrKey → Option X → BTreeMap RrKey X → BTreeMap RrKey X → Type 0
  Sets k o old new = (q : RrKey) → tree.get key_cmp new q ≡ cond (eq_by_cmp key_cmp k q) o (tree.get key_cmp old q)

  module _ (k : RrKey) (o : Option X) (old new : BTreeMap RrKey X) (puts : Sets k o old new) where
    pub put_here : tree.get key_cmp new k ≡ o
    put_here = puts k ∙ ap (λ b. cond b o (tree.get key_cmp old k)) (tied k)

    pub put_beside : (q : RrKey) → eq_by_cmp key_cmp k q ≡ false → tree.get key_cmp new q ≡ tree.get key_cmp old q
    put_beside q e = puts q ∙ ap (λ b. cond b o (tree.get key_cmp old q)) e

  -- a map that has F under the keys so far and else G, with one key more
  module _ (F G : RrKey → Option X) (k : RrKey) (ks : List RrKey) (old : BTreeMap RrKey X)
      (so : (q : RrKey) → tree.get key_cmp old q ≡ cond (has_key q ks) (F q) (G q)) where
    pub one_more : (new : BTreeMap RrKey X) → tree.get key_cmp new k ≡ F k
        → ((q : RrKey) → eq_by_cmp key_cmp k q ≡ false → tree.get key_cmp new q ≡ tree.get key_cmp old q)
        → (q : RrKey) → tree.get key_cmp new q ≡ cond (has_key q (ks ++ k ∷ [])) (F q) (G q)
    one_more new here beside = each_key (λ q. tree.get key_cmp new q ≡ cond (has_key q (ks ++ k ∷ [])) (F q) (G q)) k
        (here ∙ ap (λ b. cond b (F k) (G k)) (sym (last_here k ks)))
        (λ q e. beside q e ∙ so q ∙ ap (λ b. cond b (F q) (G q)) (sym (last_beside k q ks e)))
