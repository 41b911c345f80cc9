-- A walk over a map's record sets, from owner to owner.
use Rattle.base.proofs.names.KeyLemmas.{key_cmp-total}
use Rattle.base.specs.RecordType.{type_cmp}
use Rattle.base.specs.RrKey.{key_cmp}
use Rattle.base.specs.declared.record_type.RecordType.TheVariants as types
use Rattle.base.specs.declared.rr_key.RrKey.{RrKey}
use Rattle.base.specs.names.Labels.{NameValue}
use Rattle.base.specs.names.NameOrder.{exact, lower_cmp, lowered, name_cmp}
use Rattle.base.specs.names.NameOrderLaws.{cmp_by-total, same_lower-exact}
use Rattle.op_use.proofs.OwnerKeys.{filtered_keys, from}
use Rattle.op_use.proofs.OwnerRuns.{IsBefore, Update}
use Rattle.op_use.specs.OwnerWalk.{HasFrom, entries_from, least}
use Rattle.op_use.specs.Zone.{is_owned}
use Rattle.rr.specs.RecordSet.{SetValue}
use Rattle.std.proofs.Common.{ap, refl, subst, sym, ◌∙◌}
use Rattle.std.proofs.lemmas.Bool.{cond-false, cond-true, false_from_ne_true, true≢false}
use Rattle.std.proofs.lemmas.List.Kept.{IsStrictlySortedBy-filter}
use Rattle.std.proofs.lemmas.Map.Keys.{sorted_head, sorted_tail}
use Rattle.std.specs.BTreeMap.Range.{entries_between}
use Rattle.std.specs.BTreeMap.{BTreeMap, keys}
use Rattle.std.specs.Borrow.{Bor}
use Rattle.std.specs.Cmp.{upto}
use Rattle.std.specs.List.Sorted.{IsStrictlySortedBy}
use Rattle.std.specs.Map.{keys_of}
use Rattle.std.specs.Ordering.{is_gt, is_le, is_lt, ordering_reverse, ordering_then}
use Rattle.std.specs.Option.{MatchOption}
use Rattle.std.specs.Prelude.{Bool, List, None, Option, Some, [], cond, false, true, ◌&&◌, ◌∷◌, ◌≡◌, ⊤}
use Rattle.std.specs.declared.cmp.Ordering.TheVariants.{Equal, Greater, Less}
use Rattle.std.specs.declared.cmp.Ordering.{Ordering}
use Rattle.std.specs.declared.ops.Bound.TheVariants.{Unbounded}

pub reached : (o : Ordering) → is_gt o ≡ false → (is_le o && true) ≡ true
reached Less h = refl
reached Equal h = refl
reached Greater h = absurd (true≢false h)

not_past : (o : Ordering) → (is_le o && true) ≡ true → is_gt o ≡ false
not_past Less h = refl
not_past Equal h = refl
not_past Greater h = absurd (true≢false (sym h))

turned : (o : Ordering) → is_gt (ordering_reverse o) ≡ is_lt o
turned Less = refl
turned Equal = refl
turned Greater = refl

pub not_before : (k q : RrKey) → is_lt (key_cmp q k) ≡ false → from k q ≡ true
not_before k q h = reached (key_cmp k q) (ap is_gt (key_cmp-total.antisymm k q) ∙ turned (key_cmp q k) ∙ h)

higher : (k a b : RrKey) → from k a ≡ true → from a b ≡ true → from k b ≡ true
higher k a b h i = reached (key_cmp k b)
    (upto key_cmp-total k a b (not_past (key_cmp k a) h) (not_past (key_cmp a b) i))

module _ {X : Type 0} where
  -- in order, all entries are from a key on where the first is
  pub rising : (k : RrKey) (e : RrKey × X) (es : List (RrKey × X)) → from k e.0 ≡ true
      → IsStrictlySortedBy key_cmp (keys_of (e ∷ es)) → e ∷ es ≡ entries_from k (e ∷ es)
  rising k e [] h s = sym (cond-true _ _ _ h)
  rising k e (f ∷ es) h s =
      let next : from e.0 f.0 ≡ true = reached (key_cmp e.0 f.0)
      (ap is_gt (sorted_head key_cmp e.0 (keys_of (f ∷ es)) s).0) in
      ap (λ xs. e ∷ xs) (rising k f es (higher k e.0 f.0 h next) (sorted_tail key_cmp e.0 (keys_of (f ∷ es)) s))
      ∙ sym (cond-true _ _ _ h)

  -- from a key on and then from a later one on
  refined : (k j : RrKey) → from k j ≡ true → (es : List (RrKey × X))
      → entries_from j (entries_from k es) ≡ entries_from j es
  refined k j h [] = refl
  refined k j h (e ∷ es) = by (from k e.0) refl (refined k j h es) where
    by : (b : Bool) → from k e.0 ≡ b → entries_from j (entries_from k es) ≡ entries_from j es
        → entries_from j (cond b (e ∷ entries_from k es) (entries_from k es)) ≡ entries_from j (e ∷ es)
    by true i more = ap (λ xs. cond (from j e.0) (e ∷ xs) xs) more
    by false i more = more
        ∙ sym (cond-false _ _ _ (false_from_ne_true _ (λ t. true≢false (sym (higher k j e.0 h t) ∙ i))))

  whole : (es : List (RrKey × X)) → entries_between key_cmp Unbounded Unbounded es ≡ es
  whole [] = refl
  whole (e ∷ es) = ap (λ xs. e ∷ xs) (whole es)

  -- one entry further
  pub stepped : (r : Option (Bor RrKey × Bor X)) (old new : List (RrKey × X)) (e : RrKey × X) (es : List (RrKey × X))
      → MatchOption r ((old ≡ []) × (new ≡ [])) (λ x. old ≡ (x.0.now, x.1.now) ∷ new) → old ≡ e ∷ es → new ≡ es
  stepped None old new e es h first = absurd cc
  stepped (Some x) old new e es h first = cc

module _ (m : BTreeMap RrKey SetValue) where
  abbrev Left : Type 0
  Left = List (RrKey × SetValue)

  -- a walk over all sets
  pub begins : (k : RrKey) (left : Left) → left ≡ entries_between key_cmp Unbounded Unbounded m.entries
      → IsStrictlySortedBy key_cmp (keys m) → HasFrom k m left
  begins k left e ordered =
      let all = e ∙ whole m.entries in record {
        all = ap (entries_from k) all;
        rises = subst (λ es. IsStrictlySortedBy key_cmp (keys_of es)) (sym all) ordered;
        ordered = ordered;
      }

  -- a walk that has come to a key
  abbrev pub IsAt : RrKey → Left → Type 0
  IsAt k [] = ⊤
  IsAt k (e ∷ es) = from k e.0 ≡ true

  pub arrived : (k : RrKey) (left : Left) → HasFrom k m left → IsAt k left → left ≡ entries_from k m.entries
  arrived k [] h here = h.all
  arrived k (e ∷ es) h here = rising k e es here h.rises ∙ h.all

  -- from an owner's sets on to those of later owners
  module _ (owner later : NameValue) (less : name_cmp owner later ≡ Less) where
    pub passes_to : (walk left : Left) → HasFrom (least owner) m walk → left ≡ entries_from (least owner) m.entries
        → HasFrom (least later) m left
    passes_to walk left h e = record {
      all = ap (entries_from (least later)) e
          ∙ refined (least owner) (least later) (reached (key_cmp (least owner) (least later))
          (ap (λ o. is_gt (ordering_then o (type_cmp types.ZERO types.ZERO))) less)) m.entries;
      rises = subst (λ es. IsStrictlySortedBy key_cmp (keys_of es)) (sym e)
          (subst (IsStrictlySortedBy key_cmp) (sym (filtered_keys (from (least owner)) m.entries))
          (IsStrictlySortedBy-filter key_cmp (from (least owner)) (keys m) h.ordered));
      ordered = h.ordered;
    }

    pub passes_over : (e : RrKey × SetValue) (es : Left) → is_owned owner e.0 ≡ true
        → HasFrom (least later) m (e ∷ es) → HasFrom (least later) m es
    passes_over e es own h = record {
      all = sym (cond-false _ _ _ below) ∙ h.all;
      rises = sorted_tail key_cmp e.0 (keys_of es) h.rises;
      ordered = h.ordered;
    } where
      below : from (least later) e.0 ≡ false
      below = (λ i. is_le (ordering_then
          (lower_cmp (lowered later) (sym (same_lower-exact (lowered owner) e.0.name own) i))
          (type_cmp types.ZERO e.0.record_type)) && true)
          ∙ ap (λ o. is_le (ordering_then o (type_cmp types.ZERO e.0.record_type)) && true)
          ((cmp_by-total exact).antisymm (lowered later) (lowered owner) ∙ ap ordering_reverse less)

  -- what is left of a walk has the sets of the first of these updates
  abbrev pub IsAhead : List Update → Left → Type 0
  IsAhead [] left = ⊤
  IsAhead (r ∷ rs) left = HasFrom (least r.now.name) m left

  pub ahead_at_first : (rs : List Update) (left : Left) → ((k : RrKey) → HasFrom k m left) → IsAhead rs left
  ahead_at_first [] left all = tt
  ahead_at_first (r ∷ rs) left all = all (least r.now.name)

  pub ahead_of : (n : NameValue) (rs : List Update) (left : Left) → IsBefore n rs
      → ((later : NameValue) → name_cmp n later ≡ Less → HasFrom (least later) m left) → IsAhead rs left
  ahead_of n [] left less more = tt
  ahead_of n (r ∷ rs) left less more = more r.now.name less
