-- The labels that a cache keeps by offset, where more are kept.
use Rattle.std.proofs.Common.{◌≡◌, ◌≢◌, ℕ, zero, suc, ◌+◌, ◌-◌, ◌<◌, ◌≤◌, Bool, true, false, cond, List, [], ◌∷◌, ◌++◌}
use Rattle.std.proofs.Common.{length, max, take, drop, append_assoc}
use Rattle.std.proofs.Common.{Some, None, refl, ap, sym, ◌∙◌, subst, arith, length-append, length-drop, length-take}
use Rattle.std.proofs.Common.{inl, inr}
use Rattle.std.specs.Prelude.{All, Option, option_map, unwrap_or, get_or, nat_eq, nat_lt, replicate, slice_set, ◌==◌}
use Rattle.std.specs.Cmp.{nat_cmp_total, unsigned_tied}
use Rattle.std.specs.FinMap as map
use Rattle.std.specs.List.{slice_range}
use Rattle.std.specs.Option.{option_or}
use Rattle.std.specs.Ordering.{eq_by_cmp, nat_cmp}
use Rattle.std.proofs.lemmas.Bool.{cases_Bool, cond-true, cond-false, eqb-true, eqb-false, eq-eqb, ne_eqb}
use Rattle.std.proofs.lemmas.Bool.{ltb-true, ltb-false}
use Rattle.std.proofs.lemmas.List.{drop-append-le, take-append-le}
use Rattle.std.proofs.lemmas.List.{get_or_append_left}
use Rattle.std.proofs.lemmas.List.{get_or_past, get_or_default, get_or-set_same, get_or-set_other}
use Rattle.std.proofs.lemmas.List.{length-set, map_push, take_more_set}
use Rattle.std.proofs.lemmas.List.Elements.{All-push, All-weaker}
use Rattle.std.proofs.lemmas.Slice.{take-put_mid}
use borrow.Rule.Slice.PartMut.{put_mid}
use Rattle.base.specs.declared.wire.pointer_cache.TargetLabels.{TargetLabels}
use Rattle.base.specs.declared.wire.pointer_cache.TargetLabels.TheVariants.{Lent, Copied}
use Rattle.base.specs.declared.wire.pointer_cache.Target.{Target}
use Rattle.base.specs.reading.Pointers.{AreThere, AreUpTo, Cache, copied_bytes, IsInside, IsLonger, IsTargetThere}
use Rattle.base.specs.reading.Pointers.{cache_of}
use Rattle.base.specs.reading.Pointers.{entries_from, target_entries, target_labels, labels_from, labels_in, len_at}
use Rattle.base.specs.reading.Pointers.{kept_after, rest_labels}

-- ---- a place whose labels are there keeps them, where more is copied after

before : (place : ℕ) (copied : List ℕ) → place ≢ 0 → place + len_at copied place ≤ length copied
    → place - 1 < length copied
before place copied some inside = grind (arith, some, inside)

pub some_labels : (copied : List ℕ) (place : ℕ) → place ≢ 0 → labels_in copied place ≡ Some (labels_from copied place)
some_labels copied place some = cond-false (place == 0) _ _ (ne_eqb place 0 some)

len_stays : (copied more : List ℕ) (place : ℕ) → place ≢ 0 → IsInside copied place
    → len_at (copied ++ more) place ≡ len_at copied place
len_stays copied more place some inside =
    get_or_append_left copied more 0 (place - 1) (before place copied some (inside some))

inside_stays : (copied more : List ℕ) (place : ℕ) → IsInside copied place → IsInside (copied ++ more) place
inside_stays copied more place inside some =
    omega (arith, inside some, len_stays copied more place some inside, length-append copied more)

from_stays : (copied more : List ℕ) (place : ℕ) → place ≢ 0 → IsInside copied place
    → labels_from (copied ++ more) place ≡ labels_from copied place
from_stays copied more place some inside =
    let n = len_at copied place in
    let fits : place + n ≤ length copied = inside some in
    let at : drop place (copied ++ more) ≡ drop place copied ++ more =
    drop-append-le place copied more (omega (arith, fits)) in
    let len_is : place + n - place ≤ length (drop place copied) = omega (arith, fits, length-drop place copied) in
    ap (λ (k : ℕ). slice_range (copied ++ more) place (place + k)) (len_stays copied more place some inside)
    ∙ ap (λ (xs : List ℕ). take (place + n - place) xs) at
    ∙ take-append-le (place + n - place) (drop place copied) more len_is

module _ (copied more : List ℕ) where
  pub there_stays : (labels : TargetLabels) → AreThere copied labels → AreThere (copied ++ more) labels
  there_stays (Lent labels) there = there
  there_stays (Copied place) there = (there.0, inside_stays copied more place there.1)

  pub at_stay : (labels : TargetLabels) → AreThere copied labels
      → target_labels (copied ++ more) labels ≡ target_labels copied labels
  at_stay (Lent labels) there = refl
  at_stay (Copied place) there = from_stays copied more place there.0 there.1

  pub entries_of_stay : (targets : List Target) → All (IsTargetThere copied) targets
      → target_entries (copied ++ more) targets ≡ target_entries copied targets
  entries_of_stay [] there = refl
  entries_of_stay (t ∷ ts) there =
      ap (λ (labels : List ℕ). (t.offset, labels) ∷ target_entries (copied ++ more) ts)
      (at_stay t.labels (there 0 t (omega arith)))
      ∙ ap (λ (es : List (ℕ × List ℕ)). (t.offset, target_labels copied t.labels) ∷ es)
      (entries_of_stay ts (λ k d inside. there (suc k) d (omega (arith, inside))))

  entries_from_stay : (t : ℕ) (places : List ℕ) → All (IsInside copied) places
      → entries_from t (copied ++ more) places ≡ entries_from t copied places
  entries_from_stay t [] inside = refl
  entries_from_stay t (zero ∷ places) inside =
      entries_from_stay (suc t) places (λ k d small. inside (suc k) d (omega (arith, small)))
  entries_from_stay t (suc n ∷ places) inside =
      ap (λ (labels : List ℕ). (t, labels) ∷ entries_from (suc t) (copied ++ more) places)
      (from_stays copied more (suc n) (λ none. omega (arith, none)) (inside 0 n (omega arith)))
      ∙ ap (λ (es : List (ℕ × List ℕ)). (t, labels_from copied (suc n)) ∷ es)
      (entries_from_stay (suc t) places (λ k d small. inside (suc k) d (omega (arith, small))))

  pub cache_stays : (others : List ℕ) (first : List Target) → All (IsInside copied) others
      → All (IsTargetThere copied) first → cache_of (copied ++ more) others first ≡ cache_of copied others first
  cache_stays others first inside there =
      ap (λ (es : List (ℕ × List ℕ)). map.from_entries (es ++ target_entries (copied ++ more) first))
      (entries_from_stay 0 others inside)
      ∙ ap (λ (es : List (ℕ × List ℕ)). map.from_entries (entries_from 0 copied others ++ es))
      (entries_of_stay first there)

-- ---- what is copied after the others

same_parts : (front own rest : List ℕ) (len : ℕ) → length own + length rest ≡ len
    → ((front ++ len ∷ []) ++ own) ++ rest ≡ front ++ (length (own ++ rest) ∷ (own ++ rest))
same_parts front own rest len is =
    let all : len ≡ length (own ++ rest) = omega (arith, length-append own rest) in
    ap (λ (n : ℕ). ((front ++ n ∷ []) ++ own) ++ rest) all
    ∙ append_assoc (front ++ length (own ++ rest) ∷ []) own rest ∙ append_assoc front (length (own ++ rest) ∷ []) _

-- labels that are copied inside the value in two parts, where nothing is on the heap
pub copied_inside : (used j k : ℕ) (first own rest all owned rested : List ℕ) → length all ≡ 0
    → used + 1 + length own + length rest ≤ length first → owned ≡ own → rested ≡ rest
    → copied_bytes (used + 1 + (length own + length rest)) (put_mid (used + 1 + length own) j
    (put_mid (used + 1) k (slice_set first used (length own + length rest)) owned) rested) all
    ≡ copied_bytes used first all ++ (length (own ++ rest) ∷ (own ++ rest))
copied_inside used j k first own rest (b ∷ bs) owned rested none fits is also = absurd (omega (arith, none))
copied_inside used j k first own rest [] owned rested none fits is also = rw (is, also)
    (let len = length own + length rest in
    let one = slice_set first used len in
    take-put_mid (used + 1 + length own) j (put_mid (used + 1) k one own) rest (used + 1 + len) (omega arith)
    (omega (
      arith,
      fits,
      length-append (take (used + 1) one) (own ++ drop k (drop (used + 1) one)),
      length-append own (drop k (drop (used + 1) one)),
      length-take (used + 1) one,
      length-set first used len,
    ))
    ∙ ap (λ (xs : List ℕ). xs ++ rest) (take-put_mid (used + 1) k one own (used + 1 + length own) refl
    (omega (arith, fits, length-set first used len)))
    ∙ ap (λ (xs : List ℕ). (xs ++ own) ++ rest) (take_more_set first used len (omega (arith, fits)))
    ∙ same_parts (take used first) own rest len refl)

-- labels that are copied on the heap, where all bytes are, in two parts, the second from a place among them
pub copied_on_heap : (used : ℕ) (first given all now own rest : List ℕ) (place : ℕ) (new : List ℕ) → length all ≢ 0
    → copied_bytes used first all ≡ now → rest ≡ labels_from all place
    → new ≡ all ++ (length (own ++ rest) ∷ (own ++ rest)) → copied_bytes used given new
    ≡ now ++ (length (own ++ labels_from now place) ∷ (own ++ labels_from now place))
copied_on_heap used first given [] now own rest place new some view from is = absurd (some refl)
copied_on_heap used first given (b ∷ bs) now own rest place new some view from is = rw (is, from, sym view) refl

-- ---- the places by offset, one of them new

inside_or : (copied places : List ℕ) → All (IsInside copied) places → (q : ℕ) → IsInside copied (get_or places q 0)
inside_or copied places all q = elim (cases_Bool (nat_lt q (length places))) [
  | inl inside ↦ all q 0 (ltb-true q (length places) inside)
  | inr past ↦ λ some. absurd (some (get_or_past places q 0 (ltb-false q (length places) past)))
]

-- places of 0 after the others are no places
pub zeros_after : (places : List ℕ) (m q : ℕ) → get_or (places ++ replicate m 0) q 0 ≡ get_or places q 0
zeros_after [] m q = zeros m q where
  zeros : (m i : ℕ) → get_or (replicate m zero) i zero ≡ zero
  zeros zero i = refl
  zeros (suc m) zero = refl
  zeros (suc m) (suc i) = zeros m i
zeros_after (p ∷ places) m zero = refl
zeros_after (p ∷ places) m (suc q) = zeros_after places m q

-- ---- what is found at an offset

or_found : {X : Type 0} (b : Bool) (x : X) (o p : Option X)
    → cond b (Some x) (option_or o p) ≡ option_or (cond b (Some x) o) p
or_found true x o p = refl
or_found false x o p = refl

find_both : (xs ys : List (ℕ × List ℕ)) (q : ℕ)
    → map.find nat_cmp q (xs ++ ys) ≡ option_or (map.find nat_cmp q xs) (map.find nat_cmp q ys)
find_both [] ys q = refl
find_both (e ∷ xs) ys q =
    ap (λ (o : Option (List ℕ)). cond (eq_by_cmp nat_cmp q e.0) (Some e.1) o) (find_both xs ys q)
    ∙ or_found (eq_by_cmp nat_cmp q e.0) e.1 (map.find nat_cmp q xs) (map.find nat_cmp q ys)

tied : (q t : ℕ) → q ≡ t → eq_by_cmp nat_cmp q t ≡ true
tied q t same = unsigned_tied q t ∙ eq-eqb q t same

not_tied : (q t : ℕ) → q ≢ t → eq_by_cmp nat_cmp q t ≡ false
not_tied q t other = unsigned_tied q t ∙ ne_eqb q t other

none_before : (t : ℕ) (copied places : List ℕ) (q : ℕ) → q < t
    → map.find nat_cmp q (entries_from t copied places) ≡ None
none_before t copied [] q less = refl
none_before t copied (zero ∷ places) q less = none_before (suc t) copied places q (omega (arith, less))
none_before t copied (suc n ∷ places) q less =
    cond-false (eq_by_cmp nat_cmp q t) _ _ (not_tied q t (λ same. omega (arith, same, less)))
    ∙ none_before (suc t) copied places q (omega (arith, less))

pub found_from : (t : ℕ) (copied places : List ℕ) (k : ℕ)
    → map.find nat_cmp (t + k) (entries_from t copied places) ≡ labels_in copied (get_or places k 0)
found_from t copied [] k = refl
found_from t copied (zero ∷ places) zero = none_before (suc t) copied places (t + zero) (omega arith)
found_from t copied (zero ∷ places) (suc k) =
    let next : t + suc k ≡ suc t + k = omega arith in
    ap (λ (q : ℕ). map.find nat_cmp q (entries_from (suc t) copied places)) next ∙ found_from (suc t) copied places k
found_from t copied (suc n ∷ places) zero =
    cond-true (eq_by_cmp nat_cmp (t + zero) t) _ _ (tied (t + zero) t (omega arith))
    ∙ sym (some_labels copied (suc n) (λ none. omega (arith, none)))
found_from t copied (suc n ∷ places) (suc k) =
    let next : t + suc k ≡ suc t + k = omega arith in
    cond-false (eq_by_cmp nat_cmp (t + suc k) t) _ _ (not_tied (t + suc k) t (λ same. omega (arith, same)))
    ∙ ap (λ (q : ℕ). map.find nat_cmp q (entries_from (suc t) copied places)) next ∙ found_from (suc t) copied places k

-- none of the first targets stands after the last
pub none_after : (copied : List ℕ) (last : ℕ) (first : List Target) (q : ℕ) → AreUpTo last first → last < q
    → map.find nat_cmp q (target_entries copied first) ≡ None
none_after copied last [] q up less = refl
none_after copied last (t ∷ first) q up less =
    cond-false (eq_by_cmp nat_cmp q t.offset) _ _ (not_tied q t.offset (λ same. omega (arith, same, up.0, less)))
    ∙ none_after copied last first q up.1 less

up_to_more : (last : ℕ) (first : List Target) (one : Target) → AreUpTo last first
    → AreUpTo (max last one.offset) (first ++ one ∷ [])
up_to_more last [] one up = (omega arith, tt)
up_to_more last (t ∷ first) one up = (omega (arith, up.0), up_to_more last first one up.1)

-- by its place, and else among the first targets
pub get_cache : (copied others : List ℕ) (first : List Target) (q : ℕ)
    → map.get (cache_of copied others first) q ≡ option_or (labels_in copied (get_or others q 0))
    (map.find nat_cmp q (target_entries copied first))
get_cache copied others first q =
    let at : q ≡ 0 + q = omega arith in
    map.get-from_entries nat_cmp_total (entries_from 0 copied others ++ target_entries copied first) q
    ∙ find_both (entries_from 0 copied others) (target_entries copied first) q
    ∙ ap (λ (o : Option (List ℕ)). option_or o (map.find nat_cmp q (target_entries copied first)))
    (ap (λ (k : ℕ). map.find nat_cmp k (entries_from 0 copied others)) at ∙ found_from 0 copied others q)

-- ---- one target more

same_cache : (a b : map.FinMap nat_cmp (List ℕ)) → ((q : ℕ) → map.get a q ≡ map.get b q) → a ≡ b
same_cache = map.same_map nat_cmp_total map.nat_cmp-IsAntisymmetric

-- where each offset has the place that it had
pub same_places : (copied old new : List ℕ) (first : List Target) → ((q : ℕ) → get_or new q 0 ≡ get_or old q 0)
    → cache_of copied new first ≡ cache_of copied old first
same_places copied old new first same = same_cache _ _ (λ q.
    get_cache copied new first q
    ∙ ap (λ (p : ℕ). option_or (labels_in copied p) (map.find nat_cmp q (target_entries copied first))) (same q)
    ∙ sym (get_cache copied old first q))

pub same_inside : (copied old new : List ℕ) → ((q : ℕ) → get_or new q 0 ≡ get_or old q 0) → All (IsInside copied) old
    → All (IsInside copied) new
same_inside copied old new same all k d inside =
    subst (IsInside copied) (sym (same k) ∙ get_or_default new k 0 d inside) (inside_or copied old all k)

or_none : {X : Type 0} (o : Option X) → option_or o None ≡ o
or_none None = refl
or_none (Some x) = refl

or_both : {X : Type 0} (o p r : Option X) → option_or o (option_or p r) ≡ option_or (option_or o p) r
or_both None p r = refl
or_both (Some x) p r = refl

-- with one more, which is new
one_found : (cache now : map.FinMap nat_cmp (List ℕ)) (t : ℕ) (labels : List ℕ) → map.get now t ≡ Some labels
    → ((q : ℕ) → q ≢ t → map.get now q ≡ map.get cache q) → now ≡ map.insert cache t labels
one_found cache now t labels here other = same_cache _ _ (λ q. elim (cases_Bool (nat_eq q t)) [
  | inl same ↦
      let equal : q ≡ t = eqb-true q t same in
      ap (map.get now) equal ∙ here ∙ sym (cond-true (eq_by_cmp nat_cmp q t) (Some labels) _ (tied q t equal))
      ∙ sym (map.get-insert nat_cmp_total cache t labels q)
  | inr differ ↦
      let apart : q ≢ t = eqb-false q t differ in
      other q apart ∙ sym (cond-false (eq_by_cmp nat_cmp q t) (Some labels) _ (not_tied q t apart))
      ∙ sym (map.get-insert nat_cmp_total cache t labels q)
])

-- one more among the first
pub first_more : (copied others : List ℕ) (first : List Target) (t : ℕ) (labels : TargetLabels)
    → map.get (cache_of copied others first) t ≡ None
    → cache_of copied others (first ++ record { offset = t; labels = labels } ∷ [])
    ≡ map.insert (cache_of copied others first) t (target_labels copied labels)
first_more copied others first t labels none =
    let cache = cache_of copied others first in
    let xs = target_labels copied labels in
    let one : Target = record { offset = t; labels = labels } in
    let entry : Target → ℕ × List ℕ = λ x. (x.offset, target_labels copied x.labels) in
    let at : (q : ℕ) → map.get (cache_of copied others (first ++ one ∷ [])) q
    ≡ option_or (map.get cache q) (cond (eq_by_cmp nat_cmp q t) (Some xs) None) =
    λ q. get_cache copied others (first ++ one ∷ []) q
    ∙ ap (λ (es : List (ℕ × List ℕ)). option_or (labels_in copied (get_or others q 0)) (map.find nat_cmp q es))
    (map_push entry first one)
    ∙ ap (λ (o : Option (List ℕ)). option_or (labels_in copied (get_or others q 0)) o)
    (find_both (target_entries copied first) ((t, xs) ∷ []) q)
    ∙ or_both (labels_in copied (get_or others q 0)) (map.find nat_cmp q (target_entries copied first)) _
    ∙ ap (λ (o : Option (List ℕ)). option_or o (cond (eq_by_cmp nat_cmp q t) (Some xs) None))
    (sym (get_cache copied others first q)) in
    one_found cache _ t xs
    (at t ∙ ap (λ (o : Option (List ℕ)). option_or o (cond (eq_by_cmp nat_cmp t t) (Some xs) None)) none
    ∙ cond-true (eq_by_cmp nat_cmp t t) (Some xs) None (tied t t refl))
    (λ q apart. at q ∙ ap (λ (o : Option (List ℕ)). option_or (map.get cache q) o)
    (cond-false (eq_by_cmp nat_cmp q t) (Some xs) None (not_tied q t apart)) ∙ or_none (map.get cache q))

-- one more that has a place
pub place_more : (copied others : List ℕ) (first : List Target) (t place : ℕ) → t < length others → place ≢ 0
    → cache_of copied (slice_set others t place) first
    ≡ map.insert (cache_of copied others first) t (labels_from copied place)
place_more copied others first t place there some =
    let new = slice_set others t place in
    let among : ℕ → Option (List ℕ) = λ q. map.find nat_cmp q (target_entries copied first) in
    one_found (cache_of copied others first) _ t (labels_from copied place)
    (get_cache copied new first t
    ∙ ap (λ (p : ℕ). option_or (labels_in copied p) (among t)) (get_or-set_same others t place 0 there)
    ∙ ap (λ (o : Option (List ℕ)). option_or o (among t)) (some_labels copied place some))
    (λ q apart. get_cache copied new first q
    ∙ ap (λ (p : ℕ). option_or (labels_in copied p) (among q)) (get_or-set_other others t q place 0 apart)
    ∙ sym (get_cache copied others first q))

pub set_inside : (copied others : List ℕ) (t place : ℕ) → t < length others → IsInside copied place
    → All (IsInside copied) others → All (IsInside copied) (slice_set others t place)
set_inside copied others t place there inside all k d less =
    subst (IsInside copied) (get_or_default (slice_set others t place) k 0 d less)
    (elim (cases_Bool (nat_eq k t)) [
      | inl equal ↦ subst (IsInside copied) (sym (ap (λ (i : ℕ). get_or (slice_set others t place) i 0)
          (eqb-true k t equal) ∙ get_or-set_same others t place 0 there)) inside
      | inr differ ↦ subst (IsInside copied) (sym (get_or-set_other others t k place 0 (eqb-false k t differ)))
          (inside_or copied others all k)
    ])

-- ---- a cache by its parts

-- these are the parts of a cache
pub record IsMade (cache : Cache) (copied places : List ℕ) (first : List Target) : Type 0 where
  pub view : cache_of copied places first ≡ cache
  pub are : All (IsInside copied) places × All (IsTargetThere copied) first

module _ {cache : Cache} {copied places : List ℕ} {first : List Target} (made : IsMade cache copied places first) where
  -- each offset has the place that it had
  pub made_reach : {new : List ℕ} → ((q : ℕ) → get_or new q 0 ≡ get_or places q 0) → IsMade cache copied new first
  made_reach {new} same = record {
    view = same_places copied places new first same ∙ made.view;
    are = (same_inside copied places new same made.are.0, made.are.1);
  }

  -- more is copied
  pub made_longer : {now : List ℕ} → IsLonger copied now → IsMade cache now places first
  made_longer longer = rw longer.is (record {
    view = cache_stays copied longer.more places first made.are.0 made.are.1 ∙ made.view;
    are = (
      All-weaker (IsInside copied) (IsInside (copied ++ longer.more))
          (λ p is. inside_stays copied longer.more p is) places made.are.0,
      All-weaker (IsTargetThere copied) (IsTargetThere (copied ++ longer.more))
          (λ t is. there_stays copied longer.more t.labels is) first made.are.1,
    );
  })

  none_at : (t : ℕ) → map.get cache t ≡ None → map.get (cache_of copied places first) t ≡ None
  none_at t none = ap (λ (m : Cache). map.get m t) made.view ∙ none

  -- one more has a place
  pub made_place : (t place : ℕ) → t < length places → AreThere copied (Copied place)
      → IsMade (map.insert cache t (labels_from copied place)) copied (slice_set places t place) first
  made_place t place there is = record {
    view = place_more copied places first t place there is.0
        ∙ ap (λ (m : Cache). map.insert m t (labels_from copied place)) made.view;
    are = (set_inside copied places t place there is.1 made.are.0, made.are.1);
  }

-- one more among the first
pub made_first : {cache : Cache} {copied places : List ℕ} (first : List Target) (count : ℕ)
    → IsMade cache copied places (take count first) → (t : ℕ) (labels : TargetLabels) → map.get cache t ≡ None
    → count < length first → AreThere copied labels
    → IsMade (map.insert cache t (target_labels copied labels)) copied places
    (take (count + 1) (slice_set first count (record { offset = t; labels = labels })))
made_first {cache} {copied} {places} first count made t labels none less is =
    let one : Target = record { offset = t; labels = labels } in
    let more : take (count + 1) (slice_set first count one) ≡ take count first ++ one ∷ [] =
    take_more_set first count one less in
    rw more (record {
      view = first_more copied places (take count first) t labels (none_at made t none)
          ∙ ap (λ (m : Cache). map.insert m t (target_labels copied labels)) made.view;
      are = (made.are.0, All-push (IsTargetThere copied) (take count first) one made.are.1 is);
    })

pub first_up_to : (first : List Target) (count last : ℕ) (one : Target) → AreUpTo last (take count first)
    → count < length first → AreUpTo (max last one.offset) (take (count + 1) (slice_set first count one))
first_up_to first count last one up less =
    rw (take_more_set first count one less) (up_to_more last (take count first) one up)

-- what is kept for an offset, by where it is
pub rest_is : (copied places : List ℕ) (first : List Target) (q place : ℕ) (r : Option (List ℕ))
    → place ≡ get_or places q 0
    → r ≡ option_or (labels_in copied place) (map.find nat_cmp q (target_entries copied first))
    → r ≡ map.get (cache_of copied places first) q
rest_is copied places first q place r at found = found
    ∙ ap (λ (p : ℕ). option_or (labels_in copied p) (map.find nat_cmp q (target_entries copied first))) at
    ∙ sym (get_cache copied places first q)

-- what was found for an offset is what is kept
pub rest_found : (copied : List ℕ) (cache : Cache) (q : ℕ) (rest : Option TargetLabels)
    → option_map (target_labels copied) rest ≡ map.get cache q → rest_labels copied rest ≡ kept_after cache (Some q)
rest_found copied cache q None found = ap (λ (o : Option (List ℕ)). unwrap_or o []) found
rest_found copied cache q (Some labels) found = ap (λ (o : Option (List ℕ)). unwrap_or o []) found
