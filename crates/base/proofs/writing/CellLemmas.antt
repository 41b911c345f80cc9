-- What the cells of suffixes find.
use Rattle.base.specs.declared.wire.suffix_table.TheConstants.{WAYS}
use Rattle.std.proofs.Common.{◌≡◌, ◌≢◌, ℕ, zero, suc, ◌+◌, ◌-◌, ◌*◌, ◌<◌, ◌≤◌, ◌⊎◌, inl, inr, refl, List, [], ◌∷◌, ◌++◌}
use Rattle.std.proofs.Common.{length}
use Rattle.std.proofs.Common.{get_or, take, drop, ap, sym, ◌∙◌, arith, length-append}
use Rattle.std.specs.Prelude.{All, Option, Some, None, slice_set}
use Rattle.std.specs.Option.{option_or}
use Rattle.std.proofs.Math.Seq.{drop-nil, get_or-append_seam, take-set-lt}
use Rattle.std.proofs.lemmas.Bool.{cases_lt}
use Rattle.std.proofs.lemmas.Option.{none-some, same_Some}
use Rattle.std.proofs.lemmas.List.{drop_all, drop_more, drop-set-add, drop-set-lt, take-set-le}
use Rattle.base.specs.names.NameOrder.{same_labels}
use Rattle.base.specs.names.NameOrderLaws.{labels_decide}
use Rattle.base.specs.writing.SaysName.{found_past}
use Rattle.base.specs.writing.State.{Stored}
use Rattle.base.specs.writing.Suffixes.{InOrder, cell_of, cells_of, found_at, taken}
use Rattle.base.specs.writing.Written.{found_in}
use Rattle.base.proofs.writing.SuffixLemmas.{found_first, found_later, found_placed, so_or_not}

-- ---- a cell

-- it has the place of a suffix of the labels
pub cell_here : (ts : List Stored) (o : Option ℕ) (labels : List (List ℕ)) (cells : List ℕ) (k : ℕ) (d : Stored)
    → k < length ts → (get_or ts k d).labels ≡ labels
    → found_at ts o labels (suc k ∷ cells) ≡ Some (get_or ts k d).offset
cell_here ts o labels cells k d inside same =
    rw (drop_more ts k d inside, found_first (get_or ts k d) [] labels same) refl

-- or of one of other labels
pub cell_other : (ts : List Stored) (o : Option ℕ) (labels : List (List ℕ)) (cells : List ℕ) (k : ℕ) (d : Stored)
    → k < length ts → (get_or ts k d).labels ≢ labels
    → found_at ts o labels (suc k ∷ cells) ≡ found_at ts o labels cells
cell_other ts o labels cells k d inside other =
    rw (drop_more ts k d inside, found_later (get_or ts k d) [] labels other) refl

-- or a place where none stands any more
pub cell_past : (ts : List Stored) (o : Option ℕ) (labels : List (List ℕ)) (cells : List ℕ) (k : ℕ)
    → length ts ≤ k → found_at ts o labels (suc k ∷ cells) ≡ found_at ts o labels cells
cell_past ts o labels cells k past = rw (drop_all k ts past) refl

pub cell_hits : (ts : List Stored) (o : Option ℕ) (labels : List (List ℕ)) (cells : List ℕ) (x : ℕ) (d : Stored) → 0 < x
    → x ≤ length ts → (get_or ts (x - 1) d).labels ≡ labels
    → found_at ts o labels (x ∷ cells) ≡ Some (get_or ts (x - 1) d).offset
cell_hits ts o labels cells zero d some inside same = absurd (omega (arith, some))
cell_hits ts o labels cells (suc k) d some inside same =
    let same_place : suc k - 1 ≡ k = omega arith in
    rw (same_place) (cell_here ts o labels cells k d (omega (arith, inside)) (rw (same_place) at same))

pub cell_passes : (ts : List Stored) (o : Option ℕ) (labels : List (List ℕ)) (cells : List ℕ) (x : ℕ) (d : Stored)
    → 0 < x
    → (x ≤ length ts → (get_or ts (x - 1) d).labels ≢ labels)
    → found_at ts o labels (x ∷ cells) ≡ found_at ts o labels cells
cell_passes ts o labels cells zero d some other = absurd (omega (arith, some))
cell_passes ts o labels cells (suc k) d some other = elim (cases_lt k (length ts)) [
  | inl inside ↦
      let same_place : suc k - 1 ≡ k = omega arith in
      cell_other ts o labels cells k d inside (λ same. other (omega (arith, inside)) (rw (same_place) same))
  | inr past ↦ cell_past ts o labels cells k past
]

-- it is the first free one, or not
pub taken_free : (x : ℕ) (cells : List ℕ) → x ≡ 0 → taken (x ∷ cells) ≡ 0
taken_free x cells is = ap (λ (y : ℕ). taken (y ∷ cells)) is

pub taken_more : (x : ℕ) (cells : List ℕ) → 0 < x → taken (x ∷ cells) ≡ suc (taken cells)
taken_more zero cells some = absurd (omega (arith, some))
taken_more (suc k) cells some = refl

-- the cells for these bytes
pub the_cells : (cells bytes : List ℕ) (start : ℕ) → start ≡ cell_of bytes
    → take (start + WAYS - start) (drop start cells) ≡ cells_of cells bytes
the_cells cells bytes start is =
    let eight : start + WAYS - start ≡ WAYS = omega arith in
    ap (λ (n : ℕ). take n (drop start cells)) eight ∙ ap (λ (i : ℕ). take WAYS (drop i cells)) is

-- ---- what is found is stored

abbrev pub nothing : Stored
nothing = record { labels = []; offset = 0 }

one_found : (ts : List Stored) (k : ℕ) (labels : List (List ℕ)) (x : ℕ) → InOrder ts
    → found_in (take 1 (drop k ts)) labels ≡ Some x → found_in ts labels ≡ Some x
one_found ts k labels x order is = elim (cases_lt k (length ts)) [
  | inl inside ↦
      let t = get_or ts k nothing in
      let at : found_in (t ∷ []) labels ≡ Some x = rw (drop_more ts k nothing inside) at is in
      elim (so_or_not (same_labels t.labels labels) (labels_decide t.labels labels)) [
        | inl same ↦ found_placed ts k nothing labels order inside same ∙ sym (found_first t [] labels same) ∙ at
        | inr other ↦ absurd (none-some x (sym (found_later t [] labels other) ∙ at))
      ]
  | inr past ↦ absurd (none-some x (rw (drop_all k ts past) at is))
]

either : (r rest : Option ℕ) (x : ℕ) → option_or r rest ≡ Some x → (r ≡ Some x) ⊎ (rest ≡ Some x)
either None rest x is = inr is
either (Some y) rest x is = inl is

pub found_sound : (ts : List Stored) (o : Option ℕ) (labels : List (List ℕ)) (cells : List ℕ) (x : ℕ) → InOrder ts
    → found_at ts o labels cells ≡ Some x → (found_in ts labels ≡ Some x) ⊎ (o ≡ Some x)
found_sound ts o labels [] x order is = inr is
found_sound ts o labels (zero ∷ cells) x order is = absurd cc
found_sound ts o labels (suc k ∷ cells) x order is =
    elim (either (found_in (take 1 (drop k ts)) labels) (found_at ts o labels cells) x is) [
      | inl here ↦ inl (one_found ts k labels x order here)
      | inr later ↦ found_sound ts o labels cells x order later
    ]

-- ---- one suffix more, of other labels

one_other : (ts : List Stored) (u : Stored) (labels : List (List ℕ)) (k : ℕ) → u.labels ≢ labels
    → found_in (take 1 (drop k (ts ++ u ∷ []))) labels ≡ found_in (take 1 (drop k ts)) labels
one_other [] u labels zero other = found_later u [] labels other
one_other [] u labels (suc k) other = ap (λ (ts : List Stored). found_in (take 1 ts) labels) (drop-nil k)
one_other (t ∷ ts) u labels zero other = refl
one_other (t ∷ ts) u labels (suc k) other = one_other ts u labels k other

pub found_others : (ts : List Stored) (u : Stored) (o : Option ℕ) (labels : List (List ℕ)) (cells : List ℕ)
    → u.labels ≢ labels → found_at (ts ++ u ∷ []) o labels cells ≡ found_at ts o labels cells
found_others ts u o labels [] other = refl
found_others ts u o labels (zero ∷ cells) other = refl
found_others ts u o labels (suc k ∷ cells) other =
    rw (one_other ts u labels k other, found_others ts u o labels cells other) refl

as_before : (r rest other : Option ℕ) (x : ℕ) → option_or r rest ≡ Some x → (rest ≡ Some x → other ≡ Some x)
    → option_or r other ≡ Some x
as_before None rest other x is same = same is
as_before (Some y) rest other x is same = is

-- the same is found where the first free cell is taken
pub found_more : (ts : List Stored) (u : Stored) (o : Option ℕ) (labels : List (List ℕ)) (cells : List ℕ) (v x : ℕ)
    → u.labels ≢ labels → found_at ts o labels cells ≡ Some x
    → found_at (ts ++ u ∷ []) o labels (slice_set cells (taken cells) v) ≡ Some x
found_more ts u o labels [] v x other is = is
found_more ts u o labels (zero ∷ cells) v x other is = absurd cc
found_more ts u o labels (suc k ∷ cells) v x other is = rw (one_other ts u labels k other) (
    as_before (found_in (take 1 (drop k ts)) labels) (found_at ts o labels cells)
    (found_at (ts ++ u ∷ []) o labels (slice_set cells (taken cells) v)) x is
    (λ later. found_more ts u o labels cells v x other later))

-- ---- the labels of that suffix

either_is : (r rest : Option ℕ) (x : ℕ) → ((y : ℕ) → r ≡ Some y → y ≡ x) → rest ≡ Some x → option_or r rest ≡ Some x
either_is None rest x only is = is
either_is (Some y) rest x only is = ap Some (only y refl)

module _ (ts : List Stored) (u : Stored) (order : InOrder (ts ++ u ∷ []))
    (unlike : All (λ t. t.labels ≢ u.labels) ts) where
  -- it is found
  pub found_last : found_in (ts ++ u ∷ []) u.labels ≡ Some u.offset
  found_last = found_past ts (u ∷ []) u.labels unlike ∙ found_first u [] u.labels refl

  one_last : (k y : ℕ) → found_in (take 1 (drop k (ts ++ u ∷ []))) u.labels ≡ Some y → y ≡ u.offset
  one_last k y is = same_Some y u.offset (sym (one_found (ts ++ u ∷ []) k u.labels y order is) ∙ found_last)

  -- by the first free cell, which is taken for it
  pub found_new : (o : Option ℕ) (cells : List ℕ) → taken cells < length cells
      → found_at (ts ++ u ∷ []) o u.labels (slice_set cells (taken cells) (suc (length ts))) ≡ Some u.offset
  found_new o [] free = absurd (omega (arith, free))
  found_new o (zero ∷ cells) free =
      let at : get_or (ts ++ u ∷ []) (length ts) nothing ≡ u = get_or-append_seam ts u [] nothing in
      cell_here (ts ++ u ∷ []) o u.labels cells (length ts) nothing (omega (arith, length-append ts (u ∷ [])))
      (ap (λ (t : Stored). t.labels) at) ∙ ap (λ (t : Stored). Some t.offset) at
  found_new o (suc k ∷ cells) free =
      either_is (found_in (take 1 (drop k (ts ++ u ∷ []))) u.labels)
      (found_at (ts ++ u ∷ []) o u.labels (slice_set cells (taken cells) (suc (length ts)))) u.offset (one_last k)
      (found_new o cells (omega (arith, free)))

  -- or as is said, where none is free
  pub found_full : (cells : List ℕ) → taken cells ≡ length cells
      → found_at (ts ++ u ∷ []) (Some u.offset) u.labels cells ≡ Some u.offset
  found_full [] full = refl
  found_full (zero ∷ cells) full = absurd (omega (arith, full))
  found_full (suc k ∷ cells) full =
      either_is (found_in (take 1 (drop k (ts ++ u ∷ []))) u.labels)
      (found_at (ts ++ u ∷ []) (Some u.offset) u.labels cells) u.offset (one_last k)
      (found_full cells (omega (arith, full)))

-- ---- the cells for one number among all

-- a cell that is set is one of those for its own number alone
pub set_here : (cells : List ℕ) (start k v : ℕ) → k < WAYS
    → take WAYS (drop start (slice_set cells (start + k) v)) ≡ slice_set (take WAYS (drop start cells)) k v
set_here cells start k v inside = rw (drop-set-add start cells k v) (take-set-lt WAYS (drop start cells) k v inside)

pub set_elsewhere : (cells : List ℕ) (q r k v : ℕ) → k < WAYS
    → (q * WAYS ≡ r * WAYS)
    ⊎ (take WAYS (drop (r * WAYS) (slice_set cells (q * WAYS + k) v)) ≡ take WAYS (drop (r * WAYS) cells))
set_elsewhere cells q r k v inside = elim (cases_lt q r) [
  | inl below ↦ inr (ap (take WAYS) (drop-set-lt (r * WAYS) cells (q * WAYS + k) v (omega arith)))
  | inr above ↦ elim (cases_lt r q) [
    | inl less ↦
        let n = (q - r) * WAYS + k in
        let at : q * WAYS + k ≡ r * WAYS + n = omega arith in
        inr (ap (λ (i : ℕ). take WAYS (drop (r * WAYS) (slice_set cells i v))) at
        ∙ ap (take WAYS) (drop-set-add (r * WAYS) cells n v)
        ∙ take-set-le WAYS (drop (r * WAYS) cells) n v (omega arith))
    | inr same ↦ inl (omega arith)
  ]
]
