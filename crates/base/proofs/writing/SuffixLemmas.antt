-- Suffixes in order, and which of them is found.
use Rattle.base.specs.declared.limits.TheConstants.{POINTER_LIMIT}
use Rattle.std.proofs.Common.{◌≡◌, ◌≢◌, ℕ, zero, suc, ◌<◌, ◌≤◌, ◌⊎◌, inl, inr, refl, List, [], ◌∷◌, ◌++◌, length}
use Rattle.std.proofs.Common.{get_or}
use Rattle.std.proofs.Common.{ap, sym, ◌∙◌, arith, length-append}
use Rattle.std.specs.Prelude.{All, Bool, Option, Some, None, IfSome}
use Rattle.std.specs.Bool.{Decides}
use Rattle.std.specs.List.{AllPairs}
use Rattle.std.proofs.lemmas.Bool.{cases_Bool, false≢true}
use Rattle.std.proofs.lemmas.List.{get_or_append_left, get_or_push}
use Rattle.std.proofs.Math.Seq.{drop-append_seam}
use Rattle.std.proofs.lemmas.List.Elements.{All-nil, All-cons, All-drop}
use Rattle.base.specs.names.NameOrder.{same_labels}
use Rattle.base.specs.names.NameOrderLaws.{labels_decide}
use Rattle.base.specs.writing.SaysName.{found_as, found_past}
use Rattle.base.specs.writing.State.{Stored}
use Rattle.base.specs.writing.Suffixes.{InOrder}
use Rattle.base.specs.writing.Written.{found_in}

-- what a test decides is so or not
pub so_or_not : {P : Type 0} (b : Bool) → Decides b P → P ⊎ (P → ⊥)
so_or_not b decides = elim (cases_Bool b) [
  | inl passed ↦ inl (decides.0 passed)
  | inr failed ↦ inr (λ so. false≢true (sym failed ∙ decides.1 so))
]

-- what holds of all elements holds of those after the first
pub all_after : (P : Stored → Type 0) (xs ys : List Stored) → All P (xs ++ ys) → All P ys
all_after P xs ys h = rw drop-append_seam at (All-drop P (length xs) (xs ++ ys) h)

-- ---- what is found

-- the first of these suffixes has the labels, or others
pub found_first : (t : Stored) (ts : List Stored) (labels : List (List ℕ)) → t.labels ≡ labels
    → found_in (t ∷ ts) labels ≡ Some t.offset
found_first t ts labels same = rw ((labels_decide t.labels labels).1 same)

pub alone : (t : Stored) (labels : List (List ℕ)) → t.labels ≢ labels → All (λ u. u.labels ≢ labels) (t ∷ [])
alone t labels other = All-cons (λ u. u.labels ≢ labels) t [] other (All-nil (λ u. u.labels ≢ labels))

pub found_later : (t : Stored) (ts : List Stored) (labels : List (List ℕ)) → t.labels ≢ labels
    → found_in (t ∷ ts) labels ≡ found_in ts labels
found_later t ts labels other = found_past (t ∷ []) ts labels (alone t labels other)

-- what the first list has is found before the others
pub found_some : (first others : List Stored) (labels : List (List ℕ)) (o : ℕ) → found_in first labels ≡ Some o
    → found_in (first ++ others) labels ≡ Some o
found_some [] others labels o is = absurd cc
found_some (t ∷ ts) others labels o is = elim (cases_Bool (same_labels t.labels labels)) [
  | inl same ↦ rw same (rw same at is)
  | inr differ ↦ rw differ (found_some ts others labels o (rw differ at is))
]

-- and else what they have
pub found_none : (first others : List Stored) (labels : List (List ℕ)) → found_in first labels ≡ None
    → found_in (first ++ others) labels ≡ found_in others labels
found_none first others labels is = found_past first others labels (found_as first labels is)

-- a pointer can name what is found
pub found_near : (ts : List Stored) (labels : List (List ℕ)) (r : Option ℕ) → All (λ t. t.offset < POINTER_LIMIT) ts
    → r ≡ found_in ts labels → IfSome r (λ o. o < POINTER_LIMIT)
found_near ts labels None near is = tt
found_near ts labels (Some o) near is =
    let (k, t, inside, at, holds) = found_as ts labels (sym is) in
    omega (arith, near k t inside, ap (λ (u : Stored). u.offset) at, holds.1)

-- ---- order

abbrev pub Before : Stored → Stored → Type 0
Before s t = (s.offset < t.offset) × (s.labels ≢ t.labels)

-- the first elements stand in order, and the last is unlike them
pub order_first : (xs ys : List Stored) → AllPairs Before (xs ++ ys) → AllPairs Before xs
order_first xs ys h i j d less inside =
    let pair = h i j d less (omega (arith, length-append xs ys)) in
    let low : i < length xs = omega arith in
    rw (get_or_append_left xs ys d i low, get_or_append_left xs ys d j inside) at pair

pub last_unlike : (xs : List Stored) (u : Stored) → AllPairs Before (xs ++ u ∷ []) → All (λ t. t.labels ≢ u.labels) xs
last_unlike xs u h k d inside =
    let pair = h k (length xs) d inside (omega (arith, length-append xs (u ∷ []))) in
    (rw (get_or_append_left xs (u ∷ []) d k inside, get_or_push xs u d (length xs) refl) at pair).1

-- the suffix at a place, whose labels no other has, is the one that is found
pub found_placed : (ts : List Stored) (k : ℕ) (d : Stored) (labels : List (List ℕ)) → InOrder ts → k < length ts
    → (get_or ts k d).labels ≡ labels → found_in ts labels ≡ Some (get_or ts k d).offset
found_placed [] k d labels order inside is = absurd (omega (arith, inside))
found_placed (t ∷ ts) zero d labels order inside is = found_first t ts labels is
found_placed (t ∷ ts) (suc k) d labels order inside is =
    found_later t ts labels (λ same. (order 0 (suc k) d (omega arith) inside).1 (same ∙ sym is))
    ∙ found_placed ts k d labels
    (λ i j e less below. order (suc i) (suc j) e (omega (arith, less)) (omega (arith, below)))
    (omega (arith, inside)) is

-- the others stand in order too
pub order_after : (xs ys : List Stored) → AllPairs Before (xs ++ ys) → AllPairs Before ys
order_after [] ys h = h
order_after (x ∷ xs) ys h =
    order_after xs ys (λ i j d less inside. h (suc i) (suc j) d (omega (arith, less)) (omega (arith, inside)))

-- and are no more than a pointer can name
offset_after : (ts : List Stored) (k : ℕ) (d : Stored) → InOrder ts → k < length ts → k ≤ (get_or ts k d).offset
offset_after ts zero d order inside = omega arith
offset_after ts (suc k) d order inside =
    omega (arith, offset_after ts k d order (omega (arith, inside)), (order k (suc k) d (omega arith) inside).0)

pub few : (ts : List Stored) → InOrder ts → All (λ t. t.offset < POINTER_LIMIT) ts → length ts ≤ POINTER_LIMIT
few [] order near = omega arith
few (t ∷ ts) order near =
    let last = length ts in
    omega (arith, offset_after (t ∷ ts) last t order (omega arith), near last t (omega arith))
