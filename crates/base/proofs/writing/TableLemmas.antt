-- What storing a suffix in the table and forgetting the last does to it.
use Rattle.base.specs.declared.limits.TheConstants.{POINTER_LIMIT}
use Rattle.base.specs.declared.wire.suffix_table.TheConstants.{CELLS, CELL_SHIFT, SPREAD, WAYS}
use Rattle.std.proofs.Common.{◌≡◌, ◌≢◌, ℕ, suc, ◌+◌, ◌-◌, ◌*◌, ◌/◌, ◌%◌, ◌^◌, ◌<◌, ◌≤◌, inl, inr, refl, List, [], ◌∷◌}
use Rattle.std.proofs.Common.{◌++◌, length}
use Rattle.std.proofs.Common.{take, drop, ap, sym, ◌∙◌, subst, arith, length-append, length-drop}
use Rattle.std.specs.Prelude.{All, Vec, Option, Some, None, slice_set}
use Rattle.std.specs.BTreeMap.{BTreeMap, UpdatesBy}
use Rattle.std.specs.Cmp.Lexicographic.{slice_cmp, bytes_decides}
use Rattle.std.specs.List.{AllPairs}
use Rattle.std.specs.Ordering.{nat_cmp}
use Rattle.std.specs.Str.{bytes_eq}
use Rattle.std.specs.declared.alloc.Global.{Global}
use Rattle.std.proofs.lemmas.Option.{none-some}
use Rattle.std.proofs.lemmas.List.{append-nil, append_assoc, length-set, length-take-le}
use Rattle.std.proofs.lemmas.List.{take-append-le, take-append-drop, take_all}
use Rattle.std.proofs.lemmas.List.Elements.{All-pop, All-push}
use Rattle.std.proofs.lemmas.List.Quantifiers.{all_pairs_push}
use Rattle.base.specs.names.Labels.{IsLabelRun, wire_of}
use Rattle.base.specs.names.NameOrder.{same_labels}
use Rattle.base.specs.names.NameOrderLaws.{labels_decide}
use Rattle.base.specs.writing.SaysName.{found_among, none_found}
use Rattle.base.specs.writing.State.{Stored}
use Rattle.base.specs.Keys.{indexed_at}
use Rattle.base.specs.writing.Suffixes.{cell_of, cells_of, found_at, index_key, key_number, offset_in, taken, InOrder}
use Rattle.base.specs.writing.Suffixes.{IsTable}
use Rattle.base.specs.writing.Written.{found_in}
use Rattle.base.proofs.IndexedLemmas.{place_here, place_others}
use Rattle.base.proofs.names.LabelLemmas.{labels_of-wire_of, labels_of_is}
use Rattle.base.proofs.writing.CellLemmas.{found_full, found_last, found_more, found_new, found_others, found_sound}
use Rattle.base.proofs.writing.CellLemmas.{set_elsewhere, set_here}
use Rattle.base.proofs.writing.SuffixLemmas.{Before, all_after, alone, found_some, last_unlike, order_after}
use Rattle.base.proofs.writing.SuffixLemmas.{order_first}
use Rattle.base.proofs.writing.SuffixLemmas.{so_or_not}

same_found : (r s : Option ℕ) → ((x : ℕ) → r ≡ Some x → s ≡ Some x) → ((x : ℕ) → s ≡ Some x → r ≡ Some x) → r ≡ s
same_found None None there back = refl
same_found None (Some y) there back = back y refl
same_found (Some x) s there back = sym (there x refl)

-- the cells for one number
pub cells_len : (cells bytes : List ℕ) → cell_of bytes + WAYS ≤ length cells → length (cells_of cells bytes) ≡ WAYS
cells_len cells bytes fits =
    length-take-le WAYS (drop (cell_of bytes) cells) (omega (arith, length-drop (cell_of bytes) cells))

abbrev group : List ℕ → ℕ
group bytes = ((key_number bytes * SPREAD) % 2 ^ 32) / 2 ^ CELL_SHIFT

-- suffixes with one more after the others
module _ {find : List ℕ → Option ℕ} {cells : List ℕ} {first others : List Stored} (u : Stored)
    (t : IsTable find cells first others) (near : u.offset < POINTER_LIMIT)
    (absent : All (λ s. s.labels ≢ u.labels) (first ++ others))
    (later : All (λ s. s.offset < u.offset) (first ++ others)) where
  grown : InOrder (first ++ (others ++ u ∷ []))
  grown = rw (← append_assoc) (all_pairs_push Before (first ++ others) u t.order
      (λ k d inside. (later k d inside, absent k d inside)))

  grown_near : All (λ s. s.offset < POINTER_LIMIT) (others ++ u ∷ [])
  grown_near = All-push (λ s. s.offset < POINTER_LIMIT) others u t.near near

  grown_others : InOrder (others ++ u ∷ [])
  grown_others = order_after first (others ++ u ∷ []) grown

  unlike : All (λ s. s.labels ≢ u.labels) others
  unlike = all_after (λ s. s.labels ≢ u.labels) first others absent

  -- by a cell that was free
  pub IsTable-cell : (c : ℕ) → c ≡ cell_of (wire_of u.labels) + taken (cells_of cells (wire_of u.labels))
      → taken (cells_of cells (wire_of u.labels)) < WAYS → cell_of (wire_of u.labels) + WAYS ≤ length cells
      → CELLS ≤ length cells
      → IsTable find (slice_set cells c (suc (length others))) first (others ++ u ∷ [])
  IsTable-cell c at free fits made = record {
    order = grown;
    near = grown_near;
    finds = λ labels.
        let v = suc (length others) in
        let wire = wire_of u.labels in
        let k = taken (cells_of cells wire) in
        let here : cells_of (slice_set cells c v) wire ≡ slice_set (cells_of cells wire) k v =
        rw at (set_here cells (cell_of wire) k v free) in
        elim (so_or_not (same_labels u.labels labels) (labels_decide u.labels labels)) [
          | inl same ↦ subst (λ (ls : List (List ℕ)).
              found_at (others ++ u ∷ []) (find (wire_of ls)) ls (cells_of (slice_set cells c v) (wire_of ls))
              ≡ found_in (others ++ u ∷ []) ls) same
              (ap (found_at (others ++ u ∷ []) (find wire) u.labels) here
              ∙ found_new others u grown_others unlike (find wire) (cells_of cells wire)
              (omega (arith, free, cells_len cells wire fits))
              ∙ sym (found_last others u grown_others unlike))
          | inr other ↦
              let ow = find (wire_of labels) in
              let b = cells_of cells (wire_of labels) in
              let as_before : found_in others labels ≡ found_in (others ++ u ∷ []) labels =
              sym (found_among others (u ∷ []) labels (alone u labels other)) in
              elim (set_elsewhere cells (group wire) (group (wire_of labels)) k v free) [
                | inl same ↦
                    let bs : cells_of cells wire ≡ b = ap (λ (i : ℕ). take WAYS (drop i cells)) same in
                    let is : cells_of (slice_set cells c v) (wire_of labels) ≡ slice_set b (taken b) v =
                    ap (λ (i : ℕ). take WAYS (drop i (slice_set cells c v))) (sym same) ∙ here
                    ∙ ap (λ (xs : List ℕ). slice_set xs (taken xs) v) bs in
                    ap (found_at (others ++ u ∷ []) ow labels) is
                    ∙ same_found (found_at (others ++ u ∷ []) ow labels (slice_set b (taken b) v))
                    (found_in (others ++ u ∷ []) labels)
                    (λ x so. elim (found_sound (others ++ u ∷ []) ow labels (slice_set b (taken b) v) x grown_others so) [
                      | inl found ↦ found
                      | inr indexed ↦ found_some others (u ∷ []) labels x (t.indexed labels x indexed)
                    ])
                    (λ x so. found_more others u ow labels b v x other (t.finds labels ∙ as_before ∙ so))
                | inr elsewhere ↦
                    ap (found_at (others ++ u ∷ []) ow labels)
                    (ap (λ (i : ℕ). take WAYS (drop (cell_of (wire_of labels)) (slice_set cells i v))) at ∙ elsewhere)
                    ∙ found_others others u ow labels b other ∙ t.finds labels ∙ as_before
              ]
        ];
    indexed = λ labels o is. found_some others (u ∷ []) labels o (t.indexed labels o is);
    only = t.only;
    made = λ some. omega (arith, length-set cells c (suc (length others)), made);
  }

-- ---- a change of the index at the key of one suffix

module _ {bs : List ℕ} {w : Option ℕ} (m n : BTreeMap (Vec ℕ Global) ℕ) (u : Stored)
    (key : bs ≡ index_key (wire_of u.labels))
    (h : UpdatesBy (λ x y. slice_cmp nat_cmp x.items y.items) (λ k. slice_cmp nat_cmp bs k.items) m n w) where
  here : offset_in n (wire_of u.labels) ≡ w
  here = ap (indexed_at n) (sym key) ∙ place_here bs m n w h

  elsewhere : (cs : List ℕ) → cs ≢ wire_of u.labels → offset_in n cs ≡ offset_in m cs
  elsewhere cs other = place_others bs m n w h (index_key cs) (λ same. other (ap (drop 4) (same ∙ key)))

  only_after : ((cs : List ℕ) (o : ℕ) → offset_in m cs ≡ Some o → IsLabelRun cs)
      → (cs : List ℕ) (o : ℕ) → offset_in n cs ≡ Some o → IsLabelRun cs
  only_after only cs o is = elim (so_or_not (bytes_eq cs (wire_of u.labels)) (bytes_decides cs (wire_of u.labels))) [
    | inl same ↦ rw same (ap wire_of (labels_of-wire_of u.labels))
    | inr other ↦ only cs o (sym (elsewhere cs other) ∙ is)
  ]

  elsewhere_at : (labels : List (List ℕ)) → u.labels ≢ labels
      → offset_in n (wire_of labels) ≡ offset_in m (wire_of labels)
  elsewhere_at labels other = elsewhere (wire_of labels) (λ at. other (sym (labels_of_is (wire_of labels) u.labels at)
      ∙ labels_of-wire_of labels))

  -- one of the others more, where none of its cells was free
  pub IsTable-push : {cells : List ℕ} {first others : List Stored} → IsTable (offset_in m) cells first others
      → w ≡ Some u.offset → u.offset < POINTER_LIMIT → All (λ t. t.labels ≢ u.labels) (first ++ others)
      → All (λ t. t.offset < u.offset) (first ++ others) → taken (cells_of cells (wire_of u.labels)) ≡ WAYS
      → cell_of (wire_of u.labels) + WAYS ≤ length cells → CELLS ≤ length cells
      → IsTable (offset_in n) cells first (others ++ u ∷ [])
  IsTable-push {cells} {first} {others} t stored near absent later full fits made =
      let order = grown u t near absent later in
      let own = grown_others u t near absent later in
      let lacks = unlike u t near absent later in
      let last = found_last others u own lacks in
      record {
        order = order;
        near = grown_near u t near absent later;
        finds = λ labels. elim (so_or_not (same_labels u.labels labels) (labels_decide u.labels labels)) [
          | inl same ↦ subst (λ (ls : List (List ℕ)).
              found_at (others ++ u ∷ []) (offset_in n (wire_of ls)) ls (cells_of cells (wire_of ls))
              ≡ found_in (others ++ u ∷ []) ls) same
              (ap (λ (o : Option ℕ). found_at (others ++ u ∷ []) o u.labels (cells_of cells (wire_of u.labels)))
              (here ∙ stored) ∙ found_full others u own lacks (cells_of cells (wire_of u.labels))
              (full ∙ sym (cells_len cells (wire_of u.labels) fits)) ∙ sym last)
          | inr other ↦
              ap (λ (o : Option ℕ). found_at (others ++ u ∷ []) o labels (cells_of cells (wire_of labels)))
              (elsewhere_at labels other)
              ∙ found_others others u (offset_in m (wire_of labels)) labels (cells_of cells (wire_of labels)) other
              ∙ t.finds labels ∙ sym (found_among others (u ∷ []) labels (alone u labels other))
        ];
        indexed = λ labels o is. elim (so_or_not (same_labels u.labels labels) (labels_decide u.labels labels)) [
          | inl same ↦ subst (λ (ls : List (List ℕ)). offset_in n (wire_of ls) ≡ Some o
              → found_in (others ++ u ∷ []) ls ≡ Some o) same (λ at. last ∙ sym stored ∙ sym here ∙ at) is
          | inr other ↦ found_some others (u ∷ []) labels o (t.indexed labels o (sym (elsewhere_at labels other) ∙ is))
        ];
        only = only_after t.only;
        made = λ some. made;
      }

  -- the last of them is forgotten
  pub IsTable-pop : {cells : List ℕ} {first front : List Stored} → IsTable (offset_in m) cells first (front ++ u ∷ [])
      → w ≡ None → IsTable (offset_in n) cells first front
  IsTable-pop {cells} {first} {front} t gone =
      let order : AllPairs Before ((first ++ front) ++ u ∷ []) = rw append_assoc t.order in
      let lacks = all_after (λ s. s.labels ≢ u.labels) first front (last_unlike (first ++ front) u order) in
      let none : found_in front u.labels ≡ None = none_found front u.labels lacks in
      let own : InOrder front = order_after first front (order_first (first ++ front) (u ∷ []) order) in
      record {
        order = order_first (first ++ front) (u ∷ []) order;
        near = (All-pop (λ s. s.offset < POINTER_LIMIT) (front ++ u ∷ []) front (Some u) refl t.near).0;
        finds = λ labels. elim (so_or_not (same_labels u.labels labels) (labels_decide u.labels labels)) [
          | inl same ↦ subst (λ (ls : List (List ℕ)).
              found_at front (offset_in n (wire_of ls)) ls (cells_of cells (wire_of ls)) ≡ found_in front ls) same
              (ap (λ (o : Option ℕ). found_at front o u.labels (cells_of cells (wire_of u.labels))) (here ∙ gone)
              ∙ same_found (found_at front None u.labels (cells_of cells (wire_of u.labels))) (found_in front u.labels)
              (λ x so. elim (found_sound front None u.labels (cells_of cells (wire_of u.labels)) x own so) [
                | inl found ↦ found
                | inr nowhere ↦ absurd (none-some x nowhere)
              ])
              (λ x so. absurd (none-some x (sym none ∙ so))))
          | inr other ↦
              ap (λ (o : Option ℕ). found_at front o labels (cells_of cells (wire_of labels)))
              (elsewhere_at labels other)
              ∙ sym (found_others front u (offset_in m (wire_of labels)) labels (cells_of cells (wire_of labels)) other)
              ∙ t.finds labels ∙ found_among front (u ∷ []) labels (alone u labels other)
        ];
        indexed = λ labels o is. elim (so_or_not (same_labels u.labels labels) (labels_decide u.labels labels)) [
          | inl same ↦ subst (λ (ls : List (List ℕ)). offset_in n (wire_of ls) ≡ Some o → found_in front ls ≡ Some o)
              same (λ at. absurd (none-some o (sym gone ∙ sym here ∙ at))) is
          | inr other ↦
              sym (found_among front (u ∷ []) labels (alone u labels other))
              ∙ t.indexed labels o (sym (elsewhere_at labels other) ∙ is)
        ];
        only = only_after t.only;
        made = λ some. t.made (omega (arith, some, length-append front (u ∷ [])));
      }

-- the cells are made, where there were none
pub IsTable-made : {find : List ℕ → Option ℕ} {cells : List ℕ} {first others : List Stored} (new : List ℕ)
    → (CELLS ≤ length cells → new ≡ cells)
    → IsTable find cells first others → IsTable find new first others
IsTable-made {find = find} {first = first} {others = []} new same t = record {
  order = t.order;
  near = t.near;
  finds = λ labels. same_found (found_at [] (find (wire_of labels)) labels (cells_of new (wire_of labels))) None
      (λ x so. elim (found_sound [] (find (wire_of labels)) labels (cells_of new (wire_of labels)) x
      (order_after first [] t.order) so) [
        | inl found ↦ found
        | inr indexed ↦ t.indexed labels x indexed
      ])
      (λ x so. absurd (none-some x so));
  indexed = t.indexed;
  only = t.only;
  made = λ some. absurd (omega (arith, some));
}
IsTable-made {find = find} {first = first} {others = s ∷ others} new same t =
    subst (λ (xs : List ℕ). IsTable find xs first (s ∷ others)) (sym (same (t.made (omega arith)))) t

-- one of the first suffixes more, where there are no others
pub IsTable-first : {find : List ℕ → Option ℕ} {cells : List ℕ} {first others xs : List Stored} (u : Stored)
    → length others ≡ 0
    → xs ≡ first ++ u ∷ [] → IsTable find cells first others → All (λ t. t.labels ≢ u.labels) (first ++ others)
    → All (λ t. t.offset < u.offset) (first ++ others) → IsTable find cells xs others
IsTable-first {first = first} {others = []} u none is t absent later = record {
  order = rw (is, append-nil) (rw append-nil at (all_pairs_push Before (first ++ []) u t.order
      (λ k d inside. (later k d inside, absent k d inside))));
  near = t.near;
  finds = t.finds;
  indexed = t.indexed;
  only = t.only;
  made = t.made;
}
IsTable-first {others = s ∷ others} u none is t absent later = absurd (omega (arith, none))

-- the last of the others is cut off
pub cut_last : (n : ℕ) (first front : List Stored) (t : Stored) → n ≤ length first + length front
    → take n (first ++ (front ++ t ∷ [])) ≡ take n (first ++ front)
cut_last n first front t fits =
    rw (← append_assoc) (take-append-le n (first ++ front) (t ∷ []) (omega (arith, length-append first front)))

take_both : (n : ℕ) (xs ys : List Stored) → length ys ≤ n - length xs → take n xs ++ ys ≡ take n (xs ++ ys)
take_both n xs [] fits = simp append-nil
take_both n xs (y ∷ ys) fits =
    let long : length (xs ++ y ∷ ys) ≤ n = omega (arith, length-append xs (y ∷ ys)) in
    rw (take_all n xs (omega arith), take_all n (xs ++ y ∷ ys) long)

-- some of the first suffixes are forgotten, where as many of the others are left as may be
pub IsTable-cut : {find : List ℕ → Option ℕ} {cells : List ℕ} {first others xs : List Stored} (n : ℕ)
    → IsTable find cells first others → length others ≤ n - length first → xs ≡ take n first
    → IsTable find cells xs others
IsTable-cut {first = first} {others = others} n t fits is = record {
  order = rw (is, take_both n first others fits) (order_first (take n (first ++ others)) (drop n (first ++ others))
      (rw (take-append-drop n (first ++ others)) t.order));
  near = t.near;
  finds = t.finds;
  indexed = t.indexed;
  only = t.only;
  made = t.made;
}
