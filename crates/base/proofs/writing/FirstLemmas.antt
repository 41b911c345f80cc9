-- The suffixes inside the table.
use Rattle.base.specs.declared.limits.TheConstants.{POINTER_LIMIT}
use Rattle.base.specs.declared.wire.suffix_table.first.Entry.{Entry}
use Rattle.std.proofs.Common.{◌≡◌, ℕ, ◌+◌, ◌-◌, ◌<◌, ◌≤◌, refl, List, [], ◌∷◌, ◌++◌, length, get_or}
use Rattle.std.proofs.Common.{take, drop, ap, sym, ◌∙◌, arith, length-append, length-drop}
use Rattle.std.proofs.Common.{inl, inr}
use Rattle.std.specs.Prelude.{All, None, Some, map, nat_eq, slice_set}
use Rattle.std.proofs.lemmas.Bool.{cases_Bool, eqb-true, eqb-false}
use Rattle.std.proofs.lemmas.List.{drop_more, drop-append-le, take-append-le, take_all, take_more_set, map_push}
use Rattle.std.proofs.lemmas.List.{length-take-le, length-map, get_or-map, get_or-take, get_or-set_same}
use Rattle.std.proofs.lemmas.List.{get_or-set_other}
use Rattle.std.proofs.lemmas.List.Elements.{All-tail, All-push}
use Rattle.std.proofs.lemmas.Slice.{take-put_mid}
use Rattle.std.proofs.Math.Seq.{drop-append_seam}
use borrow.Rule.Slice.PartMut.{put_mid}
use Rattle.base.specs.names.Labels.{IsWire, labels_of, wire_of}
use Rattle.base.specs.writing.SaysName.{none_found}
use Rattle.base.specs.writing.State.{Stored, front_number}
use Rattle.base.specs.writing.Suffixes.{AreHinted, InOrder, IsEntry, bytes_of, slot_of, stored_at}
use Rattle.base.specs.writing.Written.{found_in}
use Rattle.base.proofs.writing.SuffixLemmas.{found_placed}

-- what a slice of no entries would have at a place
abbrev pub unused : Entry
unused = record { front = 0; offset = 0; start = 0; end = 0 }

-- a step of the search
pub found_entry : (text : List ℕ) (es : List Entry) (i : ℕ) (d : Entry) (labels : List (List ℕ)) → i < length es
    → found_in (map (stored_at text) (drop i es)) labels
    ≡ found_in (stored_at text (get_or es i d) ∷ map (stored_at text) (drop (i + 1) es)) labels
found_entry text es i d labels inside = rw (drop_more es i d inside)

-- a suffix that has the labels at its place
pub found_hinted : (text : List ℕ) (all : List Entry) (count k : ℕ) (d : Entry) (labels : List (List ℕ))
    → InOrder (map (stored_at text) (take count all)) → count ≤ length all → k < count
    → labels_of (bytes_of text (get_or all k d)) ≡ labels
    → found_in (map (stored_at text) (take count all)) labels ≡ Some (get_or all k d).offset
found_hinted text all count k d labels order few inside is =
    let es = take count all in
    let there : k < length es = omega (arith, inside, few, length-take-le count all few) in
    let at : get_or (map (stored_at text) es) k (stored_at text d) ≡ stored_at text (get_or all k d) =
    get_or-map (stored_at text) es k d (stored_at text d) there
    ∙ ap (stored_at text) (get_or-take count all k d inside) in
    found_placed (map (stored_at text) es) k (stored_at text d) labels order
    (omega (arith, there, length-map es (stored_at text))) (ap (λ (t : Stored). t.labels) at ∙ is)
    ∙ ap (λ (t : Stored). Some t.offset) at

-- labels that stand among the bytes stay there, where more come after them
bytes_stay : (text more : List ℕ) (e : Entry) → IsEntry text e → bytes_of (text ++ more) e ≡ bytes_of text e
bytes_stay text more e h =
    ap (λ (xs : List ℕ). take (e.end - e.start) xs)
    (drop-append-le e.start text more (omega (arith, h.ordered, h.inside)))
    ∙ take-append-le (e.end - e.start) (drop e.start text) more
    (omega (arith, h.ordered, h.inside, length-drop e.start text))

stays : (text more : List ℕ) (e : Entry) → IsEntry text e → IsEntry (text ++ more) e
stays text more e h =
    let same = bytes_stay text more e h in
    record {
      ordered = h.ordered;
      inside = omega (arith, h.inside, length-append text more);
      wire = rw same h.wire;
      front = h.front ∙ ap front_number (sym same);
      near = h.near;
    }

all_stay : (text more : List ℕ) (es : List Entry) → All (IsEntry text) es
    → map (stored_at (text ++ more)) es ≡ map (stored_at text) es
all_stay text more [] h = refl
all_stay text more (e ∷ es) h =
    rw (bytes_stay text more e (h 0 e (omega arith)), all_stay text more es (All-tail (IsEntry text) e es h)) refl

-- one more
module _ (count used front offset : ℕ) (all : List Entry) (bytes wire copied : List ℕ)
    (few : count < length all) (room : used + length wire ≤ length bytes) (is : copied ≡ wire) (ok : IsWire wire)
    (number : front ≡ front_number wire) (near : offset < POINTER_LIMIT)
    (first : All (IsEntry (take used bytes)) (take count all)) where
  abbrev pub made : Entry
  made = record { front = front; offset = offset; start = used; end = used + length wire }

  abbrev pub after : List ℕ
  after = take (used + length wire) (put_mid used (used + length wire - used) bytes copied)

  len : length (take used bytes) ≡ used
  len = length-take-le used bytes (omega (arith, room))

  after_is : after ≡ take used bytes ++ wire
  after_is =
      take-put_mid used (used + length wire - used) bytes copied (used + length wire)
      (omega (arith, ap length is)) (omega (arith, room)) ∙ rw is refl

  its_bytes : bytes_of (take used bytes ++ wire) made ≡ wire
  its_bytes =
      ap (λ (n : ℕ). take (used + length wire - used) (drop n (take used bytes ++ wire))) (sym len)
      ∙ ap (λ (xs : List ℕ). take (used + length wire - used) xs) (drop-append_seam (take used bytes) wire)
      ∙ take_all (used + length wire - used) wire (omega arith)

  pub pushed : map (stored_at after) (take (count + 1) (slice_set all count made))
      ≡ map (stored_at (take used bytes)) (take count all)
      ++ record { labels = labels_of wire; offset = offset } ∷ []
  pushed = rw (
    after_is,
    take_more_set all count made few,
    map_push (stored_at (take used bytes ++ wire)) (take count all) made,
    all_stay (take used bytes) wire (take count all) first,
    its_bytes,
  ) refl

  pub pushed_entries : All (IsEntry after) (take (count + 1) (slice_set all count made))
  pushed_entries = rw (after_is, take_more_set all count made few) (All-push (IsEntry (take used bytes ++ wire))
      (take count all) made (λ k d inside. stays (take used bytes) wire _ (first k d inside)) (record {
        ordered = omega arith;
        inside = omega (arith, len, length-append (take used bytes) wire);
        wire = rw its_bytes ok;
        front = number ∙ ap front_number (sym its_bytes);
        near = near;
      }))

-- ---- the hints

-- a suffix whose number has no hint isn't there
pub unhinted : (hints text : List ℕ) (es : List Entry) (wire : List ℕ) → All (IsEntry text) es → AreHinted hints es
    → IsWire wire → get_or hints (slot_of (front_number wire)) 0 ≡ 0
    → found_in (map (stored_at text) es) (labels_of wire) ≡ None
unhinted hints text es wire entries hinted ok none =
    none_found (map (stored_at text) es) (labels_of wire) (λ k d inside same.
    let there : k < length es = omega (arith, inside, length-map es (stored_at text)) in
    let e = get_or es k unused in
    let at = get_or-map (stored_at text) es k unused d there in
    let entry = entries k unused there in
    let bytes : bytes_of text e ≡ wire =
    sym entry.wire.whole ∙ ap wire_of (sym (ap (λ (t : Stored). t.labels) at) ∙ same) ∙ ok.whole in
    let number : e.front ≡ front_number wire = entry.front ∙ ap front_number bytes in
    omega (arith, hinted k unused there, ap (λ (n : ℕ). get_or hints (slot_of n) 0) number ∙ none))

set_stays : (hints : List ℕ) (i k v : ℕ) → i < length hints → 0 < v → 0 < get_or hints k 0
    → 0 < get_or (slice_set hints i v) k 0
set_stays hints i k v inside some was = elim (cases_Bool (nat_eq k i)) [
  | inl equal ↦ omega (
    arith,
    some,
    ap (λ (j : ℕ). get_or (slice_set hints i v) j 0) (eqb-true k i equal)
        ∙ get_or-set_same hints i v 0 inside,
  )
  | inr differ ↦ omega (arith, was, get_or-set_other hints i k v 0 (eqb-false k i differ))
]

pub hinted_push : (hints : List ℕ) (all : List Entry) (count : ℕ) (e : Entry) (i v : ℕ) → count < length all
    → i ≡ slot_of e.front → i < length hints → 0 < v → AreHinted hints (take count all)
    → AreHinted (slice_set hints i v) (take (count + 1) (slice_set all count e))
hinted_push hints all count e i v few at inside some was = rw (take_more_set all count e few) (
    All-push (λ (x : Entry). 0 < get_or (slice_set hints i v) (slot_of x.front) 0) (take count all) e
    (λ k d there. set_stays hints i _ v inside some (was k d there))
    (omega (
      arith,
      some,
      ap (λ (j : ℕ). get_or (slice_set hints i v) j 0) (sym at)
          ∙ get_or-set_same hints i v 0 inside,
    )))
