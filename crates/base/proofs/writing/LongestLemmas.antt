-- How a name is written whose suffixes are all looked up first, and stored afterwards.
use Rattle.std.proofs.Common.{◌≡◌, ◌≢◌, ℕ, ◌+◌, ◌-◌, ◌<◌, ◌≤◌, Bool, true, false, cond, List, [], ◌∷◌, ◌++◌, length}
use Rattle.std.proofs.Common.{take, drop, get_or, refl, ap, sym, ◌∙◌, append_assoc, add-zero, arith}
use Rattle.std.specs.Prelude.{Option, Some, None, All, is_some, nat_le}
use Rattle.std.specs.List.{slice_range}
use Rattle.std.proofs.lemmas.List.{drop-drop, drop_all, get_or-drop, length-drop, length-take-le, take_all}
use Rattle.std.proofs.lemmas.List.Elements.{All-append}
use Rattle.std.proofs.Math.Seq.{take-append-add}
use Rattle.base.specs.declared.limits.TheConstants.{POINTER_LIMIT}
use Rattle.base.specs.names.Labels.{size_of, wire_of, labels_of, IsLabelRun, IsWire}
use Rattle.base.specs.writing.Compression.{longest_found, size_before}
use Rattle.base.specs.writing.Laws.{Keeps}
use Rattle.base.specs.writing.SaysName.{added_at, near, near_all, found_among, name_wrote, Put, Wrote, root, points}
use Rattle.base.specs.writing.SaysName.{begins}
use Rattle.base.specs.writing.State.{State, Stored, stored}
use Rattle.base.specs.writing.Written.{Writing, piece_at, after, both, found_in, just, label_of, name, pointer_or}
use Rattle.base.proofs.names.LabelLemmas.{is_first, IsFirst, labels_of-nil, size_of-labels_of}

-- what is sliced from i on
pub rest_at : (wire : List ℕ) (i : ℕ) → slice_range wire i (length wire) ≡ drop i wire
rest_at wire i = take_all (length wire - i) (drop i wire) (omega (arith, length-drop i wire))

-- at byte i of the bytes of labels begins a label, and n bytes later begin the labels after it
record IsNext (wire : List ℕ) (i n : ℕ) : Type 0 where
  pub label : List ℕ
  pub labels : labels_of (drop i wire) ≡ label ∷ labels_of (drop (i + n) wire)
  pub size : n ≡ 1 + length label
  pub inside : i + n ≤ length wire
  pub rest : IsWire (drop (i + n) wire)

-- so it is where n is the label's length, and 1 for that
next : (wire : List ℕ) (i n : ℕ) → i < length wire → IsWire (drop i wire) → n ≡ 1 + get_or wire i 0
    → IsNext wire i n
next wire i n inside is end =
    let f : IsFirst (drop i wire) n = is_first (drop i wire) is.whole (omega (arith, length-drop i wire)) n
    (end ∙ omega (arith, ap (λ (k : ℕ). get_or wire k 0) (add-zero i), get_or-drop i wire 0 0)) in
    let x : List ℕ = slice_range (drop i wire) 1 n in
    let labels : labels_of (drop i wire) ≡ x ∷ labels_of (drop (i + n) wire) =
    f.labels ∙ ap (λ (bytes : List ℕ). x ∷ labels_of bytes) (drop-drop n i wire) in
    record {
      label = x;
      labels = labels;
      size = omega (arith, f.fits, length-drop 1 (drop i wire), length-take-le (n - 1) (drop 1 (drop i wire)));
      inside = omega (arith, f.fits, length-drop i wire);
      rest = record {
        whole = rw drop-drop at f.whole;
        labels = (rw labels at is.labels).1;
        short = omega (arith, is.short, length-drop i wire, length-drop (i + n) wire);
      };
    }

-- ---- all suffixes are looked up

-- no suffix that begins before byte i of a name is stored
pub record IsReached (stored : List Stored) (wire : List ℕ) (i : ℕ) : Type 0 where
  pub inside : i ≤ length wire
  pub rest : IsWire (drop i wire)
  pub size : i + size_before stored (labels_of (drop i wire)) ≡ size_before stored (labels_of wire)
  pub found : longest_found stored (labels_of (drop i wire)) ≡ longest_found stored (labels_of wire)

-- a suffix that isn't stored is passed
pub reached-step : (stored : List Stored) (wire : List ℕ) (i n : ℕ) → IsReached stored wire i → i < length wire
    → n ≡ 1 + get_or wire i 0 → None ≡ found_in stored (labels_of (slice_range wire i (length wire)))
    → IsReached stored wire (i + n)
reached-step stored wire i n r inside end none =
    let t : IsNext wire i n = next wire i n inside r.rest end in
    let xs : List (List ℕ) = labels_of (drop (i + n) wire) in
    let absent : None ≡ found_in stored (t.label ∷ xs) =
    none ∙ ap (found_in stored) (ap labels_of (rest_at wire i) ∙ t.labels) in
    record {
      inside = t.inside;
      rest = t.rest;
      size = omega (arith, rw (t.labels, ← absent) at r.size);
      found = rw (t.labels, ← absent) at r.found;
    }

-- the first that is stored is the longest
pub reached-found : (stored : List Stored) (wire : List ℕ) (i o : ℕ) → IsReached stored wire i → i < length wire
    → Some o ≡ found_in stored (labels_of (slice_range wire i (length wire)))
    → (i ≡ size_before stored (labels_of wire)) × (Some o ≡ longest_found stored (labels_of wire))
reached-found stored wire i o r inside is =
    let t : IsNext wire i (1 + get_or wire i 0) = next wire i (1 + get_or wire i 0) inside r.rest refl in
    let xs : List (List ℕ) = labels_of (drop (i + (1 + get_or wire i 0)) wire) in
    let there : Some o ≡ found_in stored (t.label ∷ xs) =
    is ∙ ap (found_in stored) (ap labels_of (rest_at wire i) ∙ t.labels) in
    (omega (arith, rw (t.labels, ← there) at r.size), rw (t.labels, ← there) at r.found)

-- past the last label none is
pub reached-end : (stored : List Stored) (wire : List ℕ) (i : ℕ) → IsReached stored wire i → length wire ≤ i
    → (i ≡ size_before stored (labels_of wire)) × (None ≡ longest_found stored (labels_of wire))
reached-end stored wire i r past =
    let none : labels_of (drop i wire) ≡ [] = ap labels_of (drop_all i wire past) ∙ labels_of-nil in
    (omega (arith, rw none at r.size), rw none at r.found)

-- ---- the name is written

-- the end of a name: a pointer to a suffix that is stored, or the zero byte
abbrev pub end_of : Option ℕ → Writing
end_of = pointer_or (just (0 ∷ []))

-- the bytes of a name are those of its labels before the longest suffix that is stored, and the end
name_bytes : {ts : List Stored} {labels : List (List ℕ)} {at : ℕ} {w : Put} → Wrote ts labels at w
    → (p : ℕ) (us : List Stored)
    → w.bytes ≡ take (size_before ts labels) (wire_of labels) ++ (end_of (longest_found ts labels) p us).bytes
unfolding wire_of
name_bytes root p us = refl
name_bytes (points is) p us = rw is refl
name_bytes {ts} (begins {x} {xs} none rest) p us =
    let k : ℕ = size_before ts xs in
    let len : 1 + length x + k ≡ length (length x ∷ x) + k = omega arith in
    rw (none, name_bytes rest p us, len, take-append-add) (sym (append_assoc (length x ∷ x) (take k (wire_of xs)) _))

-- so they are of a name whose bytes these are
pub name_is : (a : State) (wire : List ℕ) → IsLabelRun wire → (p : ℕ) (us : List Stored)
    → (piece_at (name (labels_of wire)) a).bytes ≡ take (size_before a.suffixes (labels_of wire)) wire
    ++ (end_of (longest_found a.suffixes (labels_of wire)) p us).bytes
name_is a wire whole p us = name_bytes (name_wrote (labels_of wire) (length a.bytes) a.suffixes).wrote p us
    ∙ ap (λ (w : List ℕ). take (size_before a.suffixes (labels_of wire)) w
    ++ (end_of (longest_found a.suffixes (labels_of wire)) p us).bytes) whole

-- the end stores nothing
end-stores : (r : Option ℕ) (p : ℕ) (us : List Stored) → (end_of r p us).suffixes ≡ us
end-stores None p us = refl
end-stores (Some o) p us = refl

-- A name is written from the state a on: its labels before the longest suffix that was stored there stand, and of its
-- suffixes those are stored that begin before byte i of it.
pub record IsStoring (a : State) (wire : List ℕ) (i : ℕ) (s : State) : Type 0 where
  pub reached : IsReached a.suffixes wire i
  pub keeps : Keeps a s
  pub bytes : s.bytes ≡ a.bytes ++ take (size_before a.suffixes (labels_of wire)) wire
  pub same : (labels : List (List ℕ)) → size_of labels ≤ length (drop i wire)
      → found_in s.suffixes labels ≡ found_in a.suffixes labels
  pub before : All (λ t. t.offset < length a.bytes + i) s.suffixes
  pub suffixes : (piece_at (name (labels_of wire)) a).suffixes
      ≡ (name (labels_of (drop i wire)) (length a.bytes + i) s.suffixes).suffixes

-- labels before the longest suffix that is stored begin none
not_found : (ts : List Stored) (labels : List (List ℕ)) → 0 < size_before ts labels → found_in ts labels ≡ None
not_found ts [] some = absurd (omega arith)
not_found ts (x ∷ xs) some = go (found_in ts (x ∷ xs)) some where
  go : (r : Option ℕ) → 0 < cond (is_some r) 0 (1 + length x + size_before ts xs) → r ≡ None
  go None some = refl
  go (Some o) some = absurd (omega arith)

-- where no label is before it, writing a name stores nothing
nothing_stored : (ts us : List Stored) (labels : List (List ℕ)) (p : ℕ) → size_before ts labels ≡ 0
    → found_in us labels ≡ found_in ts labels → (name labels p us).suffixes ≡ us
nothing_stored ts us [] p none same = refl
nothing_stored ts us (x ∷ xs) p none same = rw same (go (found_in ts (x ∷ xs)) none) where
  go : (r : Option ℕ) → cond (is_some r) 0 (1 + length x + size_before ts xs) ≡ 0
      → (pointer_or (both (label_of x xs) (name xs)) r p us).suffixes ≡ us
  go None none = absurd (omega arith)
  go (Some o) none = refl

store_or_not : (far : Bool) (s : State) (ts : List Stored)
    → cond far s (record s { suffixes = ts }) ≡ record s { suffixes = cond far s.suffixes ts }
store_or_not true s ts = refl
store_or_not false s ts = refl

-- storing a suffix changes the suffixes as writing its first label does
stored-is : (x : List ℕ) (xs : List (List ℕ)) (at : ℕ) (s : State)
    → stored (x ∷ xs) at s ≡ record s { suffixes = (label_of x xs at s.suffixes).suffixes }
stored-is x xs at s =
    store_or_not (nat_le POINTER_LIMIT at) s (s.suffixes ++ record { labels = x ∷ xs; offset = at } ∷ [])

-- a name whose first label is written goes on after it
name-past : (x : List ℕ) (xs : List (List ℕ)) (p : ℕ) (us : List Stored) → None ≡ found_in us (x ∷ xs)
    → (name (x ∷ xs) p us).suffixes ≡ (name xs (p + length (length x ∷ x)) (label_of x xs p us).suffixes).suffixes
name-past x xs p us none = rw (← none) refl

module _ (a : State) (wire : List ℕ) where
  -- a suffix that begins before the longest that was stored isn't stored yet
  pub storing-absent : (i : ℕ) (s : State) → IsStoring a wire i s → i < size_before a.suffixes (labels_of wire)
      → None ≡ found_in s.suffixes (labels_of (slice_range wire i (length wire)))
  storing-absent i s st more =
      let rest : List (List ℕ) = labels_of (drop i wire) in
      let size : size_of rest ≡ length (drop i wire) = size_of-labels_of (drop i wire) st.reached.rest in
      rw (rest_at wire i)
      (sym (st.same rest (omega arith) ∙ not_found a.suffixes rest (omega (arith, st.reached.size))))

  -- and once it is stored, those after it are found as before
  pub storing-step : (i n : ℕ) (s z : State) → IsStoring a wire i s → i < length wire
      → i < size_before a.suffixes (labels_of wire) → n ≡ 1 + get_or wire i 0
      → z ≡ stored (labels_of (slice_range wire i (length wire))) (length a.bytes + i) s → IsStoring a wire (i + n) z
  storing-step i n s z st inside more end is =
      let t : IsNext wire i n = next wire i n inside st.reached.rest end in
      let x : List ℕ = t.label in
      let xs : List (List ℕ) = labels_of (drop (i + n) wire) in
      let p : ℕ = length a.bytes + i in
      let added : List Stored = added_at x xs p in
      let rest : labels_of (slice_range wire i (length wire)) ≡ x ∷ xs = ap labels_of (rest_at wire i) ∙ t.labels in
      let first : size_of xs ≡ length (drop (i + n) wire) = size_of-labels_of (drop (i + n) wire) t.rest in
      let place : p + length (length x ∷ x) ≡ length a.bytes + (i + n) = omega (arith, t.size) in
      let now : z ≡ record s { suffixes = (label_of x xs p s.suffixes).suffixes } =
      is ∙ ap (λ (labels : List (List ℕ)). stored labels p s) rest ∙ stored-is x xs p s in
      let us : z.suffixes ≡ s.suffixes ++ added = ap (λ (u : State). u.suffixes) now ∙ near x xs p s.suffixes in
      record {
        reached = reached-step a.suffixes wire i n st.reached inside end (rw (rest_at wire i)
            (sym (not_found a.suffixes (labels_of (drop i wire)) (omega (arith, st.reached.size)))));
        keeps = record {
          appended = st.keeps.appended;
          added = st.keeps.added ++ added;
          bytes = ap (λ (u : State). u.bytes) now ∙ st.keeps.bytes;
          suffixes = rw (us, st.keeps.suffixes) (append_assoc a.suffixes st.keeps.added added);
          offsets = All-append (λ (u : Stored). length a.bytes ≤ u.offset) st.keeps.added added st.keeps.offsets
              (near_all (λ (u : Stored). length a.bytes ≤ u.offset) x xs p (λ early. omega arith));
          limit = ap (λ (u : State). u.limit) now ∙ st.keeps.limit;
          buffer = ap (λ (u : State). u.buffer) now ∙ st.keeps.buffer;
          within = omega (arith, ap (λ (u : State). length u.bytes) now, st.keeps.within);
        };
        bytes = ap (λ (u : State). u.bytes) now ∙ st.bytes;
        same = λ labels short. rw us (found_among s.suffixes added labels (near_all (λ (u : Stored). u.labels ≢ labels)
            x xs p (λ early equal. omega (arith, short, ap size_of equal, first))))
            ∙ st.same labels (omega (arith, short, length-drop i wire, length-drop (i + n) wire));
        before = rw us (All-append (λ (u : Stored). u.offset < length a.bytes + (i + n)) s.suffixes added
            (λ k d there. omega (arith, st.before k d there))
            (near_all (λ (u : Stored). u.offset < length a.bytes + (i + n)) x xs p (λ early. omega (arith, t.size))));
        suffixes = st.suffixes ∙ ap (λ (labels : List (List ℕ)). (name labels p s.suffixes).suffixes) t.labels
            ∙ name-past x xs p s.suffixes (storing-absent i s st more ∙ ap (found_in s.suffixes) rest)
            ∙ ap (λ (q : ℕ). (name xs q (label_of x xs p s.suffixes).suffixes).suffixes) place
            ∙ ap (λ (u : State). (name xs (length a.bytes + (i + n)) u.suffixes).suffixes) (sym now);
      }

  -- where all of it is stored, a name is its end
  pub stored-end : IsLabelRun wire → size_before a.suffixes (labels_of wire) ≡ 0
      → after (name (labels_of wire)) a ≡ after (end_of (longest_found a.suffixes (labels_of wire))) a
  stored-end whole none =
      let r : Option ℕ = longest_found a.suffixes (labels_of wire) in
      let bytes : (piece_at (name (labels_of wire)) a).bytes ≡ (piece_at (end_of r) a).bytes =
      name_is a wire whole (length a.bytes) a.suffixes
      ∙ ap (λ (n : ℕ). take n wire ++ (piece_at (end_of r) a).bytes) none in
      let ts : (piece_at (name (labels_of wire)) a).suffixes ≡ (piece_at (end_of r) a).suffixes =
      nothing_stored a.suffixes a.suffixes (labels_of wire) (length a.bytes) none refl
      ∙ sym (end-stores r (length a.bytes) a.suffixes) in
      λ k. record a { bytes = a.bytes ++ bytes k; suffixes = ts k }

  -- where all are stored, the name is written but for its end
  pub storing-end : (i : ℕ) (s : State) → IsLabelRun wire → IsStoring a wire i s
      → size_before a.suffixes (labels_of wire) ≤ i
      → after (name (labels_of wire)) a ≡ after (end_of (longest_found a.suffixes (labels_of wire))) s
  storing-end i s whole st past =
      let labels : List (List ℕ) = labels_of wire in
      let rest : List (List ℕ) = labels_of (drop i wire) in
      let front : List ℕ = take (size_before a.suffixes labels) wire in
      let end : Writing = end_of (longest_found a.suffixes labels) in
      let none : size_before a.suffixes rest ≡ 0 = omega (arith, st.reached.size, past) in
      let size : size_of rest ≡ length (drop i wire) = size_of-labels_of (drop i wire) st.reached.rest in
      let all : a.bytes ++ (piece_at (name labels) a).bytes ≡ s.bytes ++ (piece_at end s).bytes =
      ap (λ (w : List ℕ). a.bytes ++ w) (name_is a wire whole (length s.bytes) s.suffixes)
      ∙ sym (append_assoc a.bytes front (piece_at end s).bytes)
      ∙ ap (λ (w : List ℕ). w ++ (piece_at end s).bytes) (sym st.bytes) in
      let ts : (piece_at (name labels) a).suffixes ≡ (piece_at end s).suffixes =
      st.suffixes ∙ nothing_stored a.suffixes s.suffixes rest (length a.bytes + i) none (st.same rest (omega arith))
      ∙ sym (end-stores (longest_found a.suffixes labels) (length s.bytes) s.suffixes) in
      λ k. record {
        buffer = sym st.keeps.buffer k;
        bytes = all k;
        limit = sym st.keeps.limit k;
        suffixes = ts k;
      }
