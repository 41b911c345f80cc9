-- The offsets that are kept, as a set, and how many pointers are followed.
use Rattle.std.proofs.Common.{◌≡◌, ℕ, zero, suc, ◌+◌, ◌-◌, ◌^◌, ◌<◌, ◌≤◌, inl, inr, Bool}
use Rattle.std.proofs.Common.{true, false, cond, List, [], ◌∷◌, ◌++◌, refl, ap, sym, ◌∙◌, subst, arith}
use Rattle.std.specs.Prelude.{Option, Some, None, is_some, min, nat_eq, ◌||◌, ◌&&◌, not}
use Rattle.std.specs.Cmp.{nat_cmp_total, eq_by_cmp_equiv, unsigned_tied, unsigned_ties}
use Rattle.std.specs.FinMap as map
use Rattle.std.specs.FinSet as set
use Rattle.std.specs.FinSet.{nat_cmp-IsAntisymmetric}
use Rattle.std.specs.Ordering.{nat_cmp, is_eq, eq_by_cmp}
use Rattle.std.proofs.Math.Bool.{or-false, or_assoc, or_comm}
use Rattle.std.proofs.lemmas.Bool.{cases_Bool, cond-true, cond-false, eqb-true, false≢true}
use Rattle.std.proofs.lemmas.List.Folds.{list_any-append}
use Rattle.std.proofs.lemmas.Map.Lookups.{exact_unsigned}
use Rattle.base.specs.names.Labels.{wire_of}
use Rattle.base.specs.reading.Pointers.{AreKept, Cache, IsKept, targets_of}
use Rattle.base.proofs.reading.SpellingLemmas.{spelled_once}
use Rattle.std.specs.declared.cmp.Ordering.{Ordering}
use Rattle.std.specs.declared.cmp.Ordering.TheVariants.{Less, Equal, Greater}
use Rattle.base.specs.reading.Passing.{is_among, inserted}
use Rattle.base.specs.reading.Spelling.{Spelled, ends, label, pointer}
use Rattle.base.specs.reading.Reader.{Reader}
use Rattle.base.specs.reading.Tracks.{IsCounted}

-- ---- the offsets that are kept as a set

some_or : {X : Type 0} (b : Bool) (v : X) (o : Option X) → is_some (cond b (Some v) o) ≡ (b || is_some o)
some_or true v o = refl
some_or false v o = refl

-- labels are found exactly for the offsets that are kept
pub contains_kept : (cache : Cache) (q : ℕ) → set.contains (targets_of cache) q ≡ is_some (map.get cache q)
contains_kept cache q = set.contains-from_list nat_cmp_total (map.keys cache) q ∙ sym (map.contains_key-keys cache q)

-- of three tests, one in front
in_front : (a b c : Bool) → (a || (b || c)) ≡ (b || (a || c))
in_front a b c = sym (or_assoc a b c) ∙ ap (λ (first : Bool). first || c) (or_comm a b) ∙ or_assoc b a c

pub targets_none : targets_of map.empty ≡ set.empty
targets_none = set.same_set nat_cmp_total nat_cmp-IsAntisymmetric _ _ (λ q.
    contains_kept map.empty q ∙ ap is_some (map.get-empty nat_cmp q) ∙ sym (set.contains-empty nat_cmp q))

-- where an offset isn't kept, no labels are found
pub not_kept : (cache : Cache) (q : ℕ) → set.contains (targets_of cache) q ≡ false → map.get cache q ≡ None
not_kept cache q hasnt = go (map.get cache q) (sym (contains_kept cache q) ∙ hasnt) where
  go : (o : Option (List ℕ)) → is_some o ≡ false → o ≡ None
  go None none = refl
  go (Some items) never = absurd (false≢true (sym never))

pub targets_inserted : (cache : Cache) (t : ℕ) (items : List ℕ)
    → targets_of (map.insert cache t items) ≡ set.insert (targets_of cache) t
targets_inserted cache t items = set.same_set nat_cmp_total nat_cmp-IsAntisymmetric _ _ (λ q.
    contains_kept (map.insert cache t items) q
    ∙ ap is_some (map.get-insert nat_cmp_total cache t items q)
    ∙ some_or (eq_by_cmp nat_cmp q t) items (map.get cache q)
    ∙ ap (λ (b : Bool). eq_by_cmp nat_cmp q t || b) (sym (contains_kept cache q))
    ∙ sym (set.contains-insert nat_cmp_total (targets_of cache) t q))

some_is : {A : Type 0} (x y : A) → ◌≡◌ {A = Option A} (Some x) (Some y) → x ≡ y
some_is x y same = cc

pub kept_are : (bytes : List ℕ) (cache : Cache) (t : ℕ) (items : List ℕ) → AreKept bytes cache → IsKept bytes t items
    → AreKept bytes (map.insert cache t items)
kept_are bytes cache t items are one u xs is =
    go (eq_by_cmp nat_cmp u t) refl (sym (map.get-insert nat_cmp_total cache t items u) ∙ is) where
      go : (b : Bool) → eq_by_cmp nat_cmp u t ≡ b → cond b (Some items) (map.get cache u) ≡ Some xs → IsKept bytes u xs
      go true tied at =
          let same : u ≡ t = eqb-true u t (sym (unsigned_tied u t) ∙ tied) in
          subst (λ (k : ℕ). IsKept bytes k xs) (sym same) (subst (IsKept bytes t) (some_is items xs at) one)
      go false differ at = are u xs at

pub kept_once : {bytes : List ℕ} {t : ℕ} {xs ys : List ℕ} → IsKept bytes t xs → IsKept bytes t ys → xs ≡ ys
kept_once x y = sym x.wire.whole ∙ ap wire_of (spelled_once x.spelled y.spelled).0 ∙ y.wire.whole

pub kept_at : (bytes : List ℕ) (cache : Cache) (q : ℕ) (labels : List ℕ) → AreKept bytes cache
    → set.contains (targets_of cache) q ≡ true → IsKept bytes q labels → map.get cache q ≡ Some labels
kept_at bytes cache q labels are has at = go (map.get cache q) refl where
  go : (o : Option (List ℕ)) → map.get cache q ≡ o → map.get cache q ≡ Some labels
  go None none = absurd (false≢true (sym (ap is_some none) ∙ sym (contains_kept cache q) ∙ has))
  go (Some items) found = found ∙ ap (λ (xs : List ℕ). Some xs) (kept_once (are q items found) at)

pub kept_near : (bytes : List ℕ) (cache : Cache) → AreKept bytes cache → (q : ℕ)
    → set.contains (targets_of cache) q ≡ true → q < 16384
kept_near bytes cache are q is = go (map.get cache q) refl (sym (contains_kept cache q) ∙ is) where
  go : (o : Option (List ℕ)) → map.get cache q ≡ o → is_some o ≡ true → q < 16384
  go None at some = absurd (false≢true some)
  go (Some items) at some = (are q items at).near

-- ---- how many there are

gone : (s : set.FinSet nat_cmp) (n q : ℕ) → set.contains (set.remove s n) q ≡ true
    → (q ≡ n → ⊥) × (set.contains s q ≡ true)
gone s n q is = go (eq_by_cmp nat_cmp q n) refl (sym (set.contains-remove nat_cmp_total s n q) ∙ is) where
  go : (b : Bool) → eq_by_cmp nat_cmp q n ≡ b → (not b && set.contains s q) ≡ true
      → (q ≡ n → ⊥) × (set.contains s q ≡ true)
  go true equal never = absurd (false≢true never)
  go false differ has = (
    (λ same. false≢true
        (sym differ ∙ ap (eq_by_cmp nat_cmp q) (sym same) ∙ (eq_by_cmp_equiv nat_cmp_total).refl q)),
    has,
  )

-- numbers below n are at most n
pub few_below : (n : ℕ) (s : set.FinSet nat_cmp) → ((q : ℕ) → set.contains s q ≡ true → q < n) → set.len s ≤ n
few_below zero s below =
    let none : (q : ℕ) → set.contains s q ≡ set.contains (set.empty {R = nat_cmp}) q =
    λ q. elim (cases_Bool (set.contains s q)) [
      | inl has ↦ absurd (omega (arith, below q has))
      | inr hasnt ↦ hasnt ∙ sym (set.contains-empty nat_cmp q)
    ] in
    let is = set.same_set nat_cmp_total nat_cmp-IsAntisymmetric s set.empty none in
    omega (arith, ap set.len is, set.len-empty nat_cmp)
few_below (suc n) s below =
    let rest = few_below n (set.remove s n) (λ q has. let g = gone s n q has in grind (arith, g.0, below q g.1)) in
    let len = set.len-remove nat_cmp_total s n in
    elim (cases_Bool (set.contains s n)) [
      | inl has ↦ omega (arith, rest, len ∙ cond-true (set.contains s n) _ _ has)
      | inr hasnt ↦ omega (arith, rest, len ∙ cond-false (set.contains s n) _ _ hasnt)
    ]

-- no more are kept than a pointer can name offsets
pub few_kept : (bytes : List ℕ) (cache : Cache) → AreKept bytes cache → set.len (targets_of cache) ≤ 16384
few_kept bytes cache are = few_below 16384 (targets_of cache) (kept_near bytes cache are)

equal_is : (o : Ordering) → is_eq o ≡ true → o ≡ Equal
equal_is Less is = absurd (false≢true is)
equal_is Equal is = refl
equal_is Greater is = absurd (false≢true is)

pub same_members : (a b : set.FinSet nat_cmp) → ((q : ℕ) → set.contains a q ≡ set.contains b q) → a ≡ b
same_members = set.same_set nat_cmp_total nat_cmp-IsAntisymmetric

pub contains-inserted : (ts : List ℕ) (s : set.FinSet nat_cmp) (q : ℕ)
    → set.contains (inserted ts s) q ≡ (set.contains s q || is_among ts q)
contains-inserted ts s q = set.contains-union nat_cmp_total s (set.from_list ts) q
    ∙ ap (λ (b : Bool). set.contains s q || b) (set.contains-from_list_nat ts q)

pub contains-one_more : (s : set.FinSet nat_cmp) (t q : ℕ)
    → set.contains (set.insert s t) q ≡ (nat_eq t q || set.contains s q)
contains-one_more s t q = set.contains-insert nat_cmp_total s t q
    ∙ ap (λ (b : Bool). b || set.contains s q) (sym (unsigned_ties t q ∙ (eq_by_cmp_equiv nat_cmp_total).symm t q))

pub inserted-none : (s : set.FinSet nat_cmp) → inserted [] s ≡ s
inserted-none s = same_members (inserted [] s) s (λ q. contains-inserted [] s q ∙ or-false (set.contains s q))

pub inserted-first : (t : ℕ) (ts : List ℕ) (s : set.FinSet nat_cmp) → inserted (t ∷ ts) s ≡ set.insert (inserted ts s) t
inserted-first t ts s = same_members _ _ (λ q.
    contains-inserted (t ∷ ts) s q
    ∙ in_front (set.contains s q) (nat_eq t q) (is_among ts q)
    ∙ ap (λ (b : Bool). nat_eq t q || b) (sym (contains-inserted ts s q))
    ∙ sym (contains-one_more (inserted ts s) t q))

-- where all of these are in it, it stays
pub inserted-same : (ts : List ℕ) (s : set.FinSet nat_cmp)
    → ((q : ℕ) → is_among ts q ≡ true → set.contains s q ≡ true) → inserted ts s ≡ s
inserted-same ts s has = same_members (inserted ts s) s (λ q.
    contains-inserted ts s q ∙ go (set.contains s q) (is_among ts q) (has q)) where
      go : (a b : Bool) → (b ≡ true → a ≡ true) → (a || b) ≡ a
      go true b has = refl
      go false true has = absurd (false≢true (has refl))
      go false false has = refl

-- As many pointers were followed, to targets that weren't kept, each below the one before it, down to low.
pub record Follows (n low : ℕ) (old new : Reader) : Type 0 where
  pub now : new ≡ record old { jumps = new.jumps }
  pub jumps : old.jumps + n < 2 ^ 64 → new.jumps ≡ old.jumps + n
  pub all : set.FinSet nat_cmp
  pub len : set.len all ≡ set.len old.kept + n
  pub near : (q : ℕ) → set.contains all q ≡ true → q < 16384
  pub fresh : (q : ℕ) → q < low → set.contains all q ≡ set.contains old.kept q

pub Follows-none : (low : ℕ) (old : Reader) → ((q : ℕ) → set.contains old.kept q ≡ true → q < 16384)
    → Follows 0 low old old
Follows-none low old near = record {
  now = refl;
  jumps = λ small. omega arith;
  all = old.kept;
  len = omega arith;
  near = near;
  fresh = λ q below. refl;
}

module _ {n low t : ℕ} {old new after : Reader} (f : Follows n low old new) (below : t < low) (small : t < 16384)
    (absent : set.contains old.kept t ≡ false)
    (is : after ≡ record new { jumps = min (new.jumps + 1) (2 ^ 64 - 1) }) where
  has : (q : ℕ) → set.contains (set.insert f.all t) q ≡ (eq_by_cmp nat_cmp q t || set.contains f.all q)
  has q = set.contains-insert nat_cmp_total f.all t q

  pub Follows-push : Follows (n + 1) t old after
  Follows-push = record {
    now = is ∙ ap (λ (r : Reader). record r { jumps = min (new.jumps + 1) (2 ^ 64 - 1) }) f.now
        ∙ ap (λ (j : ℕ). record old { jumps = j }) (sym (ap (λ (r : Reader). r.jumps) is));
    jumps = λ fits. omega (arith, ap (λ (r : Reader). r.jumps) is, f.jumps (omega (arith, fits)));
    all = set.insert f.all t;
    len = omega (
      arith,
      f.len,
      set.len-insert nat_cmp_total f.all t
          ∙ cond-false (set.contains f.all t) _ _ (f.fresh t below ∙ absent),
    );
    near = λ q one. near_or (eq_by_cmp nat_cmp q t) refl (sym (has q) ∙ one);
    fresh = λ q less. has q ∙ fresh_or (eq_by_cmp nat_cmp q t) refl less;
  } where
    near_or : {q : ℕ} (b : Bool) → eq_by_cmp nat_cmp q t ≡ b → (b || set.contains f.all q) ≡ true → q < 16384
    near_or {q} true equal all = omega (arith, exact_unsigned q t (equal_is (nat_cmp q t) equal))
    near_or {q} false differ all = f.near q all

    fresh_or : {q : ℕ} (b : Bool) → eq_by_cmp nat_cmp q t ≡ b → q < t
        → (b || set.contains f.all q) ≡ set.contains old.kept q
    fresh_or {q} true equal less = absurd (omega (arith, exact_unsigned q t (equal_is (nat_cmp q t) equal)))
    fresh_or {q} false differ less = f.fresh q (omega arith)

-- there are no more than a pointer can name offsets
pub Follows-few : {n low : ℕ} {old new : Reader} → Follows n low old new → IsCounted old
    → (new.jumps ≡ set.len old.kept + n) × (set.len old.kept + n ≤ 16384)
Follows-few {n} {low} {old} {new} f counted =
    let few = few_below 16384 f.all f.near in (
      omega (arith, f.jumps (omega (arith, counted.exact, f.len, few)), counted.exact),
      omega (arith, f.len, few),
    )

-- a name ends after the place where it begins
pub ends_after : {bytes : List ℕ} {s i e : ℕ} {xs : List (List ℕ)} → Spelled bytes xs s i e → i < e
ends_after (ends h) = omega arith
ends_after (label h some small at rest) = omega (arith, ends_after rest)
ends_after (pointer h next high below rest) = omega arith

-- with the offsets of one more name
pub both_lists : (ts us : List ℕ) → inserted ts (set.from_list us) ≡ set.from_list (ts ++ us)
both_lists ts us = same_members _ _ (λ q.
    contains-inserted ts (set.from_list us) q
    ∙ ap (λ (b : Bool). b || is_among ts q) (set.contains-from_list_nat us q)
    ∙ or_comm (is_among us q) (is_among ts q)
    ∙ sym (list_any-append (λ (y : ℕ). nat_eq y q) ts us)
    ∙ sym (set.contains-from_list_nat (ts ++ us) q))
