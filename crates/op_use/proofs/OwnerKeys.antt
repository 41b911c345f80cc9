-- The keys of one owner stand side by side in the order of a map, from its least key on.
use Rattle.base.specs.names.Labels.{NameValue}
use Rattle.base.specs.names.NameOrder.{exact, lower_cmp, lowered}
use Rattle.base.specs.names.NameOrderLaws.{cmp_by-total, same_by-tie}
use Rattle.base.specs.RecordType.{type_cmp, type_number, type_rank}
use Rattle.base.specs.RrKey.{key_cmp}
use Rattle.base.specs.declared.record_type.RecordType.TheVariants as types
use Rattle.base.specs.declared.record_type.RecordType.{RecordType}
use Rattle.base.specs.declared.rr_key.RrKey.{RrKey}
use Rattle.op_use.specs.OwnerWalk.{least}
use Rattle.op_use.specs.Zone.{is_owned}
use Rattle.std.proofs.Common.{ap, append_assoc, arith, refl, sym, ◌++◌, ◌∙◌}
use Rattle.std.proofs.lemmas.Bool.{cond-false, cond-true}
use Rattle.std.proofs.lemmas.List.Sums.{take_while-cons}
use Rattle.std.proofs.lemmas.Map.Keys.{sorted_head, sorted_tail}
use Rattle.std.proofs.Math.Bool.{and-true}
use Rattle.std.specs.BTreeMap.Range.{entries_between, range_contains}
use Rattle.std.specs.Cmp.{alike_right, ranks}
use Rattle.std.specs.List.Sorted.{IsStrictlySortedBy}
use Rattle.std.specs.List.{AllByRecursion, filter, list_any, take_while}
use Rattle.std.specs.Map.{keys_of}
use Rattle.std.specs.Ordering.{MatchOrdering, is_eq, is_le, nat_cmp, ordering_then}
use Rattle.std.specs.Prelude.{Bool, List, [], cond, false, true, ℕ, ◌&&◌, ◌<◌, ◌||◌, ◌∷◌, ◌≡◌}
use Rattle.std.specs.declared.cmp.Ordering.TheVariants.{Equal, Greater, Less}
use Rattle.std.specs.declared.cmp.Ordering.{Ordering}
use Rattle.std.specs.declared.ops.Bound.TheVariants.{Included, Unbounded}

not_below : (n : ℕ) (o : Ordering) → MatchOrdering o (0 < n) (0 ≡ n) (n < 0) → is_le o ≡ true
not_below n Less h = refl
not_below n Equal h = refl
not_below n Greater h = absurd (omega arith)

both_le : (o p : Ordering) → is_le o ≡ true → is_le p ≡ true → is_le (ordering_then o p) ≡ true
both_le Less p h k = refl
both_le Equal p h k = k
both_le Greater p h k = h

-- no type is less than the one of number 0
zero_is_least : (t : RecordType) → is_le (type_cmp types.ZERO t) ≡ true
zero_is_least t = both_le (nat_cmp 0 (type_number t)) (nat_cmp 0 (type_rank t))
    (not_below (type_number t) (nat_cmp 0 (type_number t)) (ranks 0 (type_number t)))
    (not_below (type_rank t) (nat_cmp 0 (type_rank t)) (ranks 0 (type_rank t)))

by_name : (o : Ordering) (t : RecordType) → is_le (ordering_then o (type_cmp types.ZERO t)) ≡ is_le o
by_name Less t = refl
by_name Equal t = zero_is_least t
by_name Greater t = refl

-- how an owner's name compares to that of a key
abbrev against : NameValue → RrKey → Ordering
against owner k = lower_cmp (lowered owner) k.name

-- whether a key is another or after it
abbrev pub from : RrKey → RrKey → Bool
from k q = range_contains key_cmp (Included k) Unbounded q

-- the same of the least of an owner
abbrev pub is_from : NameValue → RrKey → Bool
is_from owner = from (least owner)

pub from_is : (owner : NameValue) (k : RrKey) → is_from owner k ≡ is_le (against owner k)
from_is owner k = and-true (is_le (key_cmp (least owner) k)) ∙ by_name (against owner k) k.record_type

pub owned_is : (owner : NameValue) (k : RrKey) → is_owned owner k ≡ is_eq (against owner k)
owned_is owner k = same_by-tie exact (lowered owner) k.name

-- after a key of a later owner stand later owners
later : (owner : NameValue) (a b : RrKey) → against owner a ≡ Less → key_cmp a b ≡ Less → against owner b ≡ Less
later owner a b p h = step (lower_cmp a.name b.name) refl h where
  step : (o : Ordering) → lower_cmp a.name b.name ≡ o → ordering_then o (type_cmp a.record_type b.record_type) ≡ Less
      → against owner b ≡ Less
  step Less e q = (cmp_by-total exact).trans (lowered owner) a.name b.name p e
  step Equal e q = sym (alike_right (cmp_by-total exact) a.name b.name (lowered owner) e) ∙ p
  step Greater e q = cc

-- whether a key is of an owner and passes a test
abbrev pub passes : NameValue → (RrKey → Bool) → RrKey → Bool
passes owner p k = is_owned owner k && p k

module _ (owner : NameValue) {X : Type 0} where
  abbrev pub owned_entry : RrKey × X → Bool
  owned_entry e = is_owned owner e.0

  abbrev pub from_entry : RrKey × X → Bool
  from_entry e = is_from owner e.0

  none_later : (a : RrKey) (es : List (RrKey × X)) → against owner a ≡ Less
      → AllByRecursion (λ k. key_cmp a k ≡ Less) (keys_of es) → filter owned_entry es ≡ []
  none_later a [] p h = refl
  none_later a (e ∷ es) p (h, hs) = cond-false _ _ _ (owned_is owner e.0 ∙ ap is_eq (later owner a e.0 p h))
      ∙ none_later a es p hs

  step : (e : RrKey × X) (es : List (RrKey × X)) → IsStrictlySortedBy key_cmp (keys_of (e ∷ es))
      → take_while owned_entry (filter from_entry es) ≡ filter owned_entry es
      → (o : Ordering) → against owner e.0 ≡ o → take_while owned_entry (filter from_entry (e ∷ es))
      ≡ filter owned_entry (e ∷ es)
  step e es s more Less p =
      ap (take_while owned_entry) (cond-true _ _ _ (from_is owner e.0 ∙ ap is_le p))
      ∙ take_while-cons owned_entry e (filter from_entry es)
      ∙ cond-false _ _ _ (owned_is owner e.0 ∙ ap is_eq p)
      ∙ sym (cond-false _ _ _ (owned_is owner e.0 ∙ ap is_eq p)
      ∙ none_later e.0 es p (sorted_head key_cmp e.0 (keys_of es) s))
  step e es s more Equal p =
      ap (take_while owned_entry) (cond-true _ _ _ (from_is owner e.0 ∙ ap is_le p))
      ∙ take_while-cons owned_entry e (filter from_entry es)
      ∙ cond-true _ _ _ (owned_is owner e.0 ∙ ap is_eq p) ∙ ap (λ xs. e ∷ xs) more
      ∙ sym (cond-true _ _ _ (owned_is owner e.0 ∙ ap is_eq p))
  step e es s more Greater p =
      ap (take_while owned_entry) (cond-false _ _ _ (from_is owner e.0 ∙ ap is_le p)) ∙ more
      ∙ sym (cond-false _ _ _ (owned_is owner e.0 ∙ ap is_eq p))

  -- of the entries from an owner's least key on, its own stand in front
  pub side_by_side : (es : List (RrKey × X)) → IsStrictlySortedBy key_cmp (keys_of es)
      → take_while owned_entry (filter from_entry es) ≡ filter owned_entry es
  side_by_side [] s = refl
  side_by_side (e ∷ es) s = step e es s (side_by_side es (sorted_tail key_cmp e.0 (keys_of es) s))
      (against owner e.0) refl

  -- one more key of the owner, and the first of another
  pub next_owned : (e : RrKey × X) (es : List (RrKey × X)) → is_owned owner e.0 ≡ true
      → take_while owned_entry (e ∷ es) ≡ e ∷ take_while owned_entry es
  next_owned e es h = take_while-cons owned_entry e es ∙ cond-true _ _ _ h

  module _ (p : RrKey → Bool) where
    any_step : (e : RrKey × X) (fs : List (RrKey × X)) (c b : Bool) → is_owned owner e.0 ≡ b
        → list_any (passes owner p) (keys_of fs) ≡ c
        → list_any (passes owner p) (keys_of (cond b (e ∷ fs) fs)) ≡ (passes owner p e.0 || c)
    any_step e fs c true h more = ap (λ d. passes owner p e.0 || d) more
    any_step e fs c false h more = more ∙ sym (ap (λ b. (b && p e.0) || c) h)

    -- a key among all is of the owner exactly where it is among its own
    pub any_owned : (es : List (RrKey × X)) → list_any (passes owner p) (keys_of (filter owned_entry es)) ≡ list_any
        (passes owner p) (keys_of es)
    any_owned [] = refl
    any_owned (e ∷ es) = any_step e (filter owned_entry es) (list_any (passes owner p) (keys_of es))
        (is_owned owner e.0) refl (any_owned es)

-- A walk over an owner's keys: where it starts, and its steps.
module _ (owner : NameValue) (p : RrKey → Bool) {X : Type 0} where
  pub starts : (k : RrKey) (s es : List (RrKey × X)) → k ≡ least owner → IsStrictlySortedBy key_cmp (keys_of es)
      → s ≡ entries_between key_cmp (Included k) Unbounded es
      → take_while (owned_entry owner) s ≡ filter (owned_entry owner) es
  starts k s es e ordered h = ap (take_while (owned_entry owner))
      (h ∙ ap (λ q. entries_between key_cmp (Included q) Unbounded es) e) ∙ side_by_side owner es ordered

  pub any_start : (k : RrKey) (s es : List (RrKey × X)) → k ≡ least owner → IsStrictlySortedBy key_cmp (keys_of es)
      → s ≡ entries_between key_cmp (Included k) Unbounded es
      → list_any (passes owner p) (keys_of (take_while (owned_entry owner) s)) ≡ list_any (passes owner p) (keys_of es)
  any_start k s es e ordered h = ap (λ xs. list_any (passes owner p) (keys_of xs)) (starts k s es e ordered h)
      ∙ any_owned owner p es

  pub any_here : (s es : List (RrKey × X)) (e : RrKey × X) (c : Bool) → s ≡ e ∷ es → is_owned owner e.0 ≡ true
      → p e.0 ≡ true
      → list_any (passes owner p) (keys_of (take_while (owned_entry owner) s)) ≡ c → true ≡ c
  any_here s es e c h own good more = sym (ap (λ xs. list_any (passes owner p) (keys_of xs))
      (ap (take_while (owned_entry owner)) h ∙ next_owned owner e es own)
      ∙ ap (λ b. (b && p e.0) || rest) own ∙ ap (λ b. b || rest) good) ∙ more where
        rest : Bool
        rest = list_any (passes owner p) (keys_of (take_while (owned_entry owner) es))

  pub any_next : (s es : List (RrKey × X)) (e : RrKey × X) (c : Bool) → s ≡ e ∷ es → is_owned owner e.0 ≡ true
      → p e.0 ≡ false
      → list_any (passes owner p) (keys_of (take_while (owned_entry owner) s)) ≡ c
      → list_any (passes owner p) (keys_of (take_while (owned_entry owner) es)) ≡ c
  any_next s es e c h own bad more = sym (ap (λ xs. list_any (passes owner p) (keys_of xs))
      (ap (take_while (owned_entry owner)) h ∙ next_owned owner e es own)
      ∙ ap (λ b. (b && p e.0) || rest) own ∙ ap (λ b. b || rest) bad) ∙ more where
        rest : Bool
        rest = list_any (passes owner p) (keys_of (take_while (owned_entry owner) es))

-- the keys of entries whose keys pass a test
pub filtered_keys : {X : Type 0} (p : RrKey → Bool) (es : List (RrKey × X))
    → keys_of (filter (λ e. p e.0) es) ≡ filter p (keys_of es)
filtered_keys p [] = refl
filtered_keys p (e ∷ es) = step (p e.0) ∙ ap (λ ks. cond (p e.0) (e.0 ∷ ks) ks) (filtered_keys p es) where
  step : (b : Bool) → keys_of (cond b (e ∷ filter (λ f. p f.0) es) (filter (λ f. p f.0) es))
      ≡ cond b (e.0 ∷ keys_of (filter (λ f. p f.0) es)) (keys_of (filter (λ f. p f.0) es))
  step true = refl
  step false = refl

-- all keys of an owner
module _ (owner : NameValue) {X : Type 0} where
  pub all_start : (k : RrKey) (s es : List (RrKey × X)) (found : List RrKey) → found ≡ [] → k ≡ least owner
      → IsStrictlySortedBy key_cmp (keys_of es)
      → s ≡ entries_between key_cmp (Included k) Unbounded es
      → found ++ keys_of (take_while (owned_entry owner) s) ≡ filter (λ k. is_owned owner k) (keys_of es)
  all_start k s es found none e ordered h =
      ap (λ ks. ks ++ keys_of (take_while (owned_entry owner) s)) none
      ∙ ap keys_of (starts owner (λ k. true) k s es e ordered h) ∙ filtered_keys (is_owned owner) es

  pub all_here : {s es : List (RrKey × X)} {e : RrKey × X} {more ks : List RrKey} (found : List RrKey)
      → more ≡ found ++ e.0 ∷ [] → s ≡ e ∷ es → is_owned owner e.0 ≡ true
      → found ++ keys_of (take_while (owned_entry owner) s) ≡ ks
      → more ++ keys_of (take_while (owned_entry owner) es) ≡ ks
  all_here {s} {es} {e} found m h own so_far =
      ap (λ xs. xs ++ keys_of (take_while (owned_entry owner) es)) m
      ∙ append_assoc found (e.0 ∷ []) (keys_of (take_while (owned_entry owner) es))
      ∙ sym (ap (λ xs. found ++ keys_of xs) (ap (take_while (owned_entry owner)) h ∙ next_owned owner e es own))
      ∙ so_far
