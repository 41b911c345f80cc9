-- A walk over a name's own sets; its first key tells whether something stands at the name or below it.
use Rattle.authority.proofs.WayLemmas.{or_none, within_itself}
use Rattle.authority.specs.Lookup.{exists_among}
use Rattle.authority.specs.Found.{IsAtName}
use Rattle.authority.specs.declared.sets.AtName.{AtName}
use Rattle.base.proofs.names.BelowLemmas.{below_between, below_le}
use Rattle.base.specs.names.Labels.{NameValue}
use Rattle.base.specs.names.NameOrder.{folded, lower_cmp, lowered}
use Rattle.base.specs.names.Parents.{is_at_or_below, is_within}
use Rattle.base.specs.RecordType.{same_type, type_cmp, type_number, type_rank}
use Rattle.base.specs.RrKey.{key_cmp, key_of}
use Rattle.base.specs.declared.rr_key.RrKey.{RrKey}
use Rattle.base.specs.Keys.{keys_match}
use Rattle.base.specs.names.NameOrderLaws.{same_lower-exact}
use Rattle.base.specs.declared.record_type.RecordType.TheVariants as types
use Rattle.base.specs.declared.record_type.RecordType.{RecordType}
use Rattle.op_use.proofs.OwnerKeys.{from_is, is_from, next_owned, owned_entry, owned_is, starts}
use Rattle.op_use.specs.OwnerWalk.{least}
use Rattle.op_use.specs.Zone.{is_owned}
use Rattle.rr.specs.RecordSet.{SetValue}
use Rattle.std.proofs.Common.{ap, refl, subst, sym, ◌∙◌}
use Rattle.std.proofs.lemmas.Bool.{cond-false, cond-true, false_from_ne_true, false≢true}
use Rattle.std.proofs.lemmas.Map.Keys.{sorted_head, sorted_tail}
use Rattle.std.proofs.Math.Bool.{or-true}
use Rattle.std.proofs.lemmas.List.Sums.{take_while-cons}
use Rattle.std.proofs.lemmas.Map.Entries.{lookup-filter-keys}
use Rattle.std.specs.BTreeMap.Range.{entries_between}
use Rattle.std.specs.List.Sorted.{IsStrictlySortedBy}
use Rattle.std.specs.Bool.{beq, then_some}
use Rattle.std.specs.Cmp.Lexicographic.{pointwise}
use Rattle.std.specs.List.{AllByRecursion, ends_with, filter, take_while}
use Rattle.std.specs.Map.{keys_of, lookup}
use Rattle.std.specs.Ordering.{is_le, ordering_then}
use Rattle.std.specs.Prelude.{Bool, List, None, Option, Some, [], cond, false, nat_eq, true, ℕ, ◌&&◌, ◌||◌, ◌∷◌, ◌≡◌}
use Rattle.std.specs.declared.cmp.Ordering.TheVariants.{Equal, Greater, Less}
use Rattle.std.specs.declared.cmp.Ordering.{Ordering}
use Rattle.std.specs.declared.ops.Bound.TheVariants.{Included, Unbounded}
use Rattle.std.specs.BTreeMap as tree
use Rattle.std.specs.BTreeMap.{BTreeMap, is_at}
use Rattle.std.specs.Cmp.{both_tied, first_so}
use Rattle.std.specs.Option.{option_copied, option_or}

before_le : (o p : Ordering) → ordering_then o p ≡ Less → is_le o ≡ true
before_le Less p h = refl
before_le Equal p h = refl
before_le Greater p h = cc

module _ (n : NameValue) where
  abbrev pub covers : RrKey → Bool
  covers k = is_at_or_below n k.name

  none_after : (a : RrKey) (ks : List RrKey) → is_le (lower_cmp (lowered n) a.name) ≡ true → covers a ≡ false
      → AllByRecursion (λ k. key_cmp a k ≡ Less) ks → exists_among n ks ≡ false
  none_after a [] p f h = refl
  none_after a (k ∷ ks) p f (h, hs) =
      ap (λ b. b || exists_among n ks) (false_from_ne_true (covers k) (λ t. false≢true (sym f
      ∙ below_between n a.name k.name p (before_le (lower_cmp a.name k.name)
      (type_cmp a.record_type k.record_type) h) t)))
      ∙ none_after a ks p f hs

module _ (n : NameValue) {X : Type 0} where
  -- whether the first of these entries is of the name or of one below it
  abbrev pub first_covered : List (RrKey × X) → Bool
  first_covered [] = false
  first_covered (e ∷ es) = covers n e.0

  before : (e : RrKey × X) (es : List (RrKey × X)) → is_from n e.0 ≡ false → covers n e.0 ≡ false
  before e es f = false_from_ne_true (covers n e.0) (λ t. false≢true (sym f ∙ from_is n e.0 ∙ below_le n e.0.name t))

  decided : (e : RrKey × X) (es : List (RrKey × X)) → is_from n e.0 ≡ true
      → AllByRecursion (λ k. key_cmp e.0 k ≡ Less) (keys_of es) → (c : Bool) → covers n e.0 ≡ c
      → c ≡ (c || exists_among n (keys_of es))
  decided e es f later true t = refl
  decided e es f later false t = sym (none_after n e.0 (keys_of es) (sym (from_is n e.0) ∙ f) t later)

  step : (e : RrKey × X) (es : List (RrKey × X)) → IsStrictlySortedBy key_cmp (keys_of (e ∷ es)) → (b : Bool)
      → is_from n e.0 ≡ b
      → first_covered (filter (λ e. is_from n e.0) es) ≡ exists_among n (keys_of es)
      → first_covered (filter (λ e. is_from n e.0) (e ∷ es)) ≡ exists_among n (keys_of (e ∷ es))
  step e es s true f more = ap first_covered (cond-true _ _ _ f)
      ∙ decided e es f (sorted_head key_cmp e.0 (keys_of es) s) (covers n e.0) refl
  step e es s false f more = ap first_covered (cond-false _ _ _ f) ∙ more
      ∙ sym (ap (λ b. b || exists_among n (keys_of es)) (before e es f))

  first_tells : (es : List (RrKey × X)) → IsStrictlySortedBy key_cmp (keys_of es)
      → first_covered (filter (λ e. is_from n e.0) es) ≡ exists_among n (keys_of es)
  first_tells [] s = refl
  first_tells (e ∷ es) s = step e es s (is_from n e.0) refl (first_tells es (sorted_tail key_cmp e.0 (keys_of es) s))

  -- of what a search from the name's least key on found
  pub first_from : (k : RrKey) (s es : List (RrKey × X)) → k ≡ least n → IsStrictlySortedBy key_cmp (keys_of es)
      → s ≡ entries_between key_cmp (Included k) Unbounded es
      → first_covered s ≡ exists_among n (keys_of es)
  first_from k s es e ordered h = ap first_covered (h
      ∙ ap (λ q. entries_between key_cmp (Included q) Unbounded es) e) ∙ first_tells es ordered

-- a name lies in another as it does in lower case
pub in_lower : (n b : NameValue) → folded b ≡ b.labels → is_within n b ≡ is_at_or_below n b
in_lower n b h = ap (λ (labels : List (List ℕ)). beq n.absolute b.absolute && ends_with (pointwise nat_eq) labels
    (folded n)) h

-- ---- the walk

later : (o : Option SetValue) (b : Bool) (s : SetValue) (more : Option SetValue)
    → option_or (option_or o (then_some b s)) more ≡ option_or o (cond b (Some s) more)
later None true s more = refl
later None false s more = refl
later (Some x) b s more = refl

module _ (m : BTreeMap RrKey SetValue) (n : NameValue) where
  -- a key of the name is found by its type
  by_type : (t : RecordType) (k : RrKey) → is_at (key_cmp (key_of n t)) k ≡ (is_owned n k && same_type t k.record_type)
  by_type t k = sym (both_tied _ _ (lower_cmp (lowered n) k.name) (type_cmp t k.record_type) (owned_is n k)
      (keys_match type_number type_rank t k.record_type))

  covers_own : (k : RrKey) → is_owned n k ≡ true → is_at_or_below n k.name ≡ true
  covers_own k h =
      subst (λ (x : NameValue). is_at_or_below n x ≡ true) (same_lower-exact (lowered n) k.name h) (within_itself n)

  -- the set of a type was found before, or is among those left of the name
  abbrev pub IsSought : RecordType → Option SetValue → List (RrKey × SetValue) → Type 0
  IsSought t o it = option_or o (lookup (is_at (key_cmp (key_of n t))) (take_while (owned_entry n) it))
      ≡ tree.get key_cmp m (key_of n t)

  abbrev pub IsWalk : RecordType → AtName → List (RrKey × SetValue) → Type 0
  IsWalk t own it = ((own.exists || first_covered n it) ≡ exists_among n (tree.keys m))
      × IsSought types.NS (option_copied own.servers) it × IsSought types.CNAME (option_copied own.alias) it
      × IsSought t (option_copied own.asked) it

  sought_begins : (t : RecordType) (it : List (RrKey × SetValue)) (k : RrKey) → k ≡ least n
      → IsStrictlySortedBy key_cmp (tree.keys m) → it ≡ entries_between key_cmp (Included k) Unbounded m.entries
      → IsSought t None it
  sought_begins t it k e ordered h =
      ap (lookup (is_at (key_cmp (key_of n t)))) (starts n (λ q. true) k it m.entries e ordered h)
      ∙ lookup-filter-keys (is_at (key_cmp (key_of n t))) (is_owned n) true
      (λ q at. first_so _ _ (sym (by_type t q) ∙ at)) m.entries

  pub walk_begins : (t : RecordType) (it : List (RrKey × SetValue)) (k : RrKey) → k ≡ least n
      → IsStrictlySortedBy key_cmp (tree.keys m) → it ≡ entries_between key_cmp (Included k) Unbounded m.entries
      → IsWalk t (record { exists = false; servers = None; alias = None; asked = None }) it
  walk_begins t it k e ordered h = (
    first_from n k it m.entries e ordered h,
    sought_begins types.NS it k e ordered h,
    sought_begins types.CNAME it k e ordered h,
    sought_begins t it k e ordered h,
  )

  module _ (it es : List (RrKey × SetValue)) (k : RrKey) (s : SetValue) (is : it ≡ (k, s) ∷ es)
      (own : is_owned n k ≡ true) where
    sought_next : (t : RecordType) (o p : Option SetValue) → p ≡ option_or o (then_some (same_type t k.record_type) s)
        → IsSought t o it → IsSought t p es
    sought_next t o p e h =
        let test : RrKey → Bool = is_at (key_cmp (key_of n t)) in
        let rest = lookup test (take_while (owned_entry n) es) in
        ap (λ x. option_or x rest) e ∙ later o (same_type t k.record_type) s rest
        ∙ ap (option_or o) (sym (ap (λ xs. lookup test (take_while (owned_entry n) xs)) is
        ∙ ap (lookup test) (next_owned n (k, s) es own)
        ∙ ap (λ b. cond b (Some s) rest) (by_type t k ∙ ap (λ b. b && same_type t k.record_type) own)))
        ∙ h

    pub walk_next : (t : RecordType) (a b : AtName) → b.exists ≡ true
        → option_copied b.servers
        ≡ option_or (option_copied a.servers) (then_some (same_type types.NS k.record_type) s)
        → option_copied b.alias
        ≡ option_or (option_copied a.alias) (then_some (same_type types.CNAME k.record_type) s)
        → option_copied b.asked ≡ option_or (option_copied a.asked) (then_some (same_type t k.record_type) s)
        → IsWalk t a it → IsWalk t b es
    walk_next t a b there servers alias asked h = (
      ap (λ c. c || first_covered n es) there ∙ sym (or-true a.exists)
          ∙ ap (λ c. a.exists || c) (sym (covers_own k own))
          ∙ ap (λ xs. a.exists || first_covered n xs) (sym is) ∙ h.0,
      sought_next types.NS (option_copied a.servers) (option_copied b.servers) servers h.1,
      sought_next types.CNAME (option_copied a.alias) (option_copied b.alias) alias h.2,
      sought_next t (option_copied a.asked) (option_copied b.asked) asked h.3,
    )

  pub none_left : (it es : List (RrKey × SetValue)) (e : RrKey × SetValue) → it ≡ e ∷ es → is_owned n e.0 ≡ false
      → take_while (owned_entry n) it ≡ []
  none_left it es e is other = ap (take_while (owned_entry n)) is ∙ take_while-cons (owned_entry n) e es
      ∙ cond-false _ _ _ other

  sought_ends : (t : RecordType) (o : Option SetValue) (it : List (RrKey × SetValue))
      → take_while (owned_entry n) it ≡ [] → IsSought t o it → o ≡ tree.get key_cmp m (key_of n t)
  sought_ends t o it none h =
      sym (or_none o) ∙ ap (λ es. option_or o (lookup (is_at (key_cmp (key_of n t))) es)) (sym none) ∙ h

  pub walk_ends : (t : RecordType) (own : AtName) (there : Bool) (it : List (RrKey × SetValue))
      → take_while (owned_entry n) it ≡ [] → there ≡ (own.exists || first_covered n it) → IsWalk t own it
      → IsAtName m n t (record own { exists = there })
  walk_ends t own there it none e h = (
    e ∙ h.0,
    sought_ends types.NS (option_copied own.servers) it none h.1,
    sought_ends types.CNAME (option_copied own.alias) it none h.2,
    sought_ends t (option_copied own.asked) it none h.3,
  )
