-- Labels that are gathered of a name, before those that are read after them.
use Rattle.std.proofs.Common.{◌≡◌, ℕ, suc, ◌+◌, ◌-◌, ◌<◌, ◌≤◌, List, [], ◌∷◌, ◌++◌, length, take, drop}
use Rattle.std.proofs.Common.{Option, Some, None, Result, Ok, Err, inl, inr, refl, ap, sym, ◌∙◌, subst, arith}
use Rattle.std.proofs.Common.{append_assoc, length-append}
use Rattle.std.specs.Prelude.{nat_lt, nat_le, unwrap_or}
use Rattle.std.specs.List.{slice_range}
use Rattle.std.proofs.lemmas.Bool.{cases_lt, cond-true, cond-false, le-leb, lt-leb, lt-ltb}
use Rattle.std.proofs.lemmas.List.{append-nil, drop_more}
use Rattle.base.specs.declared.error.decode_error.DecodeError.{DecodeError}
use Rattle.base.specs.declared.error.decode_error.DecodeError.TheVariants as faults
use Rattle.base.specs.reading.Pointers.{AreTooLong, IsKept}
use Rattle.base.specs.names.Labels.{IsWire, AreLabels, labels_of, wire_of}
use Rattle.base.specs.reading.Names.{NamePart, zero_byte, label_of, pointer_to, Labels, part_at, with_label, ending}
use Rattle.base.specs.reading.Names.{labels_at}
use Rattle.base.specs.reading.Reading.{◌>>=◌, Fails}
use Rattle.base.specs.reading.Spelling.{ByteAt, anywhere, Spelled}
use Rattle.base.proofs.names.LabelLemmas.{IsWire-nil, IsWire-push, AreLabels-append, labels_of-nil, labels_of-push}
use Rattle.base.proofs.names.LabelLemmas.{labels_of_is, wire_of-append, size_of-labels_of}
use Rattle.base.proofs.reading.ReadingLemmas.{labels_at-part, labels_at-label, labels_again, labels_too_long}
use Rattle.base.proofs.reading.ReadingLemmas.{length-range, IsRight, labels_right}
use Rattle.base.proofs.reading.WalkLemmas.{PartIs, is_root, is_label, is_pointer, part_is}

-- the labels that were read, before those that are read after them
abbrev pub with_front : List (List ℕ) → Labels → Labels
with_front front read = read >>= λ r. Ok (front ++ r.0, r.1)

-- the labels that are read, of a name that ends after its first pointer, if it has passed one
abbrev pub ended_at : Option ℕ → Labels → Labels
ended_at None read = read
ended_at (Some e) read = ending e read

-- What was gathered, before what is read from at on, is the whole name.
pub record Gathers (buffer : List ℕ) (first before start at used : ℕ) (bytes : List ℕ) (end : Option ℕ) : Type 0 where
  pub so_far : with_front (labels_of bytes) (ended_at end (labels_at buffer start at used))
      ≡ labels_at buffer first first before
  pub wire : IsWire bytes
  pub len : before + length bytes ≡ used
  pub few : used ≤ 254
  pub low : start ≤ length buffer
  pub inside : at ≤ length buffer

with_front-nil : (read : Labels) → with_front [] read ≡ read
with_front-nil (Ok r) = refl
with_front-nil (Err f) = refl

pub gathers_none : (buffer : List ℕ) (first before : ℕ) → first ≤ length buffer → before ≤ 254
    → Gathers buffer first before first first before [] None
gathers_none buffer first before inside small = record {
  so_far = rw labels_of-nil (with_front-nil (labels_at buffer first first before));
  wire = IsWire-nil;
  len = omega arith;
  few = small;
  low = inside;
  inside = inside;
}

module _ {buffer : List ℕ} {first before start at used : ℕ} {bytes : List ℕ} {end : Option ℕ}
    (gathers : Gathers buffer first before start at used bytes end) where
  few : used ≤ 254
  few = gathers.few

  -- what is read from here on, as the whole name
  goes : (read : Labels) → labels_at buffer start at used ≡ read
      → labels_at buffer first first before ≡ with_front (labels_of bytes) (ended_at end read)
  goes read is = sym gathers.so_far ∙ ap (λ (r : Labels). with_front (labels_of bytes) (ended_at end r)) is

  pub fails : (f : DecodeError) → labels_at buffer start at used ≡ Err f → labels_at buffer first first before ≡ Err f
  fails f is = goes (Err f) is ∙ at_err end f where
    at_err : (end : Option ℕ) (f : DecodeError) → with_front (labels_of bytes) (ended_at end (Err f)) ≡ Err f
    at_err None f = refl
    at_err (Some e) f = refl

  pub at_fault : (f : DecodeError) → part_at buffer at ≡ Err f → labels_at buffer first first before ≡ Err f
  at_fault f is = fails f (labels_at-part buffer start at used (Err f) few is)

  pub at_long : (n : ℕ) → part_at buffer at ≡ Ok (label_of n) → 255 < used + n + 2
      → labels_at buffer first first before ≡ Err faults.BadName
  at_long n is more = fails faults.BadName (labels_at-part buffer start at used (Ok (label_of n)) few is
      ∙ cond-true (nat_lt 255 (used + n + 2)) _ _ (lt-ltb 255 (used + n + 2) more))

  at_forward : (t : ℕ) → part_at buffer at ≡ Ok (pointer_to t) → start ≤ t
      → labels_at buffer first first before ≡ Err faults.BadName
  at_forward t is above = fails faults.BadName
      (labels_at-part buffer start at used (Ok (pointer_to t)) few is
      ∙ cond-true (nat_le start t) _ _ (le-leb start t above))

  pub at_root : part_at buffer at ≡ Ok zero_byte
      → labels_at buffer first first before ≡ Ok (labels_of bytes, unwrap_or end (at + 1))
  at_root is = goes (Ok ([], at + 1)) (labels_at-part buffer start at used (Ok zero_byte) few is) ∙ at_end end where
    at_end : (end : Option ℕ) → with_front (labels_of bytes) (ended_at end (Ok ([], at + 1))) ≡ Ok
        (labels_of bytes, unwrap_or end (at + 1))
    at_end None = ap (λ (labels : List (List ℕ)). Ok (labels, at + 1)) (append-nil (labels_of bytes))
    at_end (Some e) = ap (λ (labels : List (List ℕ)). Ok (labels, e)) (append-nil (labels_of bytes))

-- what a label is
label_part : (bytes : List ℕ) (i n : ℕ) (read : Result NamePart DecodeError) → PartIs bytes i read
    → read ≡ Ok (label_of n)
    → ByteAt anywhere bytes i n × (1 ≤ n) × (n ≤ 63) × (i + 1 + n ≤ length bytes)
label_part bytes i n _ (is_label {n = m} h some small fits) is =
    let same : m ≡ n = cc in
    (subst (ByteAt anywhere bytes i) same h, omega arith, omega arith, omega arith)
label_part bytes i n _ other is = absurd cc

root_part : (bytes : List ℕ) (i : ℕ) (read : Result NamePart DecodeError) → PartIs bytes i read → read ≡ Ok zero_byte
    → i + 1 ≤ length bytes
root_part bytes i _ (is_root h) is = omega (arith, h.inside)
root_part bytes i _ other is = absurd cc

pointer_part : (bytes : List ℕ) (i t : ℕ) (read : Result NamePart DecodeError) → PartIs bytes i read
    → read ≡ Ok (pointer_to t) → i + 2 ≤ length bytes
pointer_part bytes i t _ (is_pointer h next high) is = omega (arith, next.inside)
pointer_part bytes i t _ other is = absurd cc

pub pointer_fits : (bytes : List ℕ) (i t : ℕ) → part_at bytes i ≡ Ok (pointer_to t) → i + 2 ≤ length bytes
pointer_fits bytes i t is = pointer_part bytes i t (part_at bytes i) (part_is bytes i) is

pub root_fits : (bytes : List ℕ) (i : ℕ) → part_at bytes i ≡ Ok zero_byte → i + 1 ≤ length bytes
root_fits bytes i is = root_part bytes i (part_at bytes i) (part_is bytes i) is

-- a label with its length before it, and its bytes
label_range : (buffer : List ℕ) (at n : ℕ) → ByteAt anywhere buffer at n → at + 1 + n ≤ length buffer
    → slice_range buffer at (at + 1 + n) ≡ length (slice_range buffer (at + 1) (at + 1 + n)) ∷ slice_range buffer
    (at + 1) (at + 1 + n)
label_range buffer at n h fits =
    let x = slice_range buffer (at + 1) (at + 1 + n) in
    let len = length-range buffer at n fits in
    let whole : at + 1 + n - at ≡ suc n = omega arith in
    let back : n ≡ at + 1 + n - (at + 1) = omega arith in
    ap (λ (k : ℕ). take k (drop at buffer)) whole
    ∙ ap (take (suc n)) (drop_more buffer at 0 h.inside)
    ∙ ap (λ (b : ℕ). b ∷ take n (drop (at + 1) buffer)) (h.is ∙ sym len)
    ∙ ap (λ (k : ℕ). length x ∷ take k (drop (at + 1) buffer)) back

push_front : (front : List (List ℕ)) (x : List ℕ) (end : Option ℕ) (read : Labels)
    → with_front front (ended_at end (with_label x read)) ≡ with_front (front ++ x ∷ []) (ended_at end read)
push_front front x None (Ok r) = ap (λ (labels : List (List ℕ)). Ok (labels, r.1))
    (sym (append_assoc front (x ∷ []) r.0))
push_front front x (Some e) (Ok r) = ap (λ (labels : List (List ℕ)). Ok (labels, e))
    (sym (append_assoc front (x ∷ []) r.0))
push_front front x None (Err f) = refl
push_front front x (Some e) (Err f) = refl

pub fails_is : {A : Type 0} (f : DecodeError) (read : Result A DecodeError) → read ≡ Err f → Fails f read
fails_is faults.Memory read is = tt
fails_is f read is = is

-- a fault goes on to where another reading meets it
pub fails_on : {A B : Type 0} (f : DecodeError) (read : Result A DecodeError) (other : Result B DecodeError)
    → (read ≡ Err f → other ≡ Err f) → Fails f read → Fails f other
fails_on faults.Memory read other goes is = tt
fails_on f read other goes is = goes is

module _ {buffer : List ℕ} {first before start at used : ℕ} {bytes : List ℕ} {end : Option ℕ}
    (gathers : Gathers buffer first before start at used bytes end) where
  pub gathers_pointer : (t : ℕ) → part_at buffer at ≡ Ok (pointer_to t) → t < start
      → Gathers buffer first before t t used bytes (Some (unwrap_or end (at + 2)))
  gathers_pointer t is below = record {
    so_far = ap (with_front (labels_of bytes)) (earlier end (labels_at buffer t t used))
        ∙ sym (goes gathers (ending (at + 2) (labels_at buffer t t used))
        (labels_at-part buffer start at used (Ok (pointer_to t)) (few gathers) is
        ∙ cond-false (nat_le start t) _ _ (lt-leb start t below)));
    wire = gathers.wire;
    len = gathers.len;
    few = gathers.few;
    low = omega (arith, gathers.low);
    inside = omega (arith, gathers.low);
  } where
    earlier : (end : Option ℕ) (read : Labels)
        → ended_at (Some (unwrap_or end (at + 2))) read ≡ ended_at end (ending (at + 2) read)
    earlier None read = refl
    earlier (Some e) (Ok r) = refl
    earlier (Some e) (Err f) = refl

  pub gathers_label : (n size : ℕ) (next : List ℕ) → part_at buffer at ≡ Ok (label_of n) → size ≡ 1 + n
      → used + size + 1 ≤ 255 → next ≡ bytes ++ slice_range buffer at (at + size)
      → Gathers buffer first before start (at + size) (used + size) next end
  gathers_label n size next is size_is short next_is =
      let part = label_part buffer at n (part_at buffer at) (part_is buffer at) is in
      let x = slice_range buffer (at + 1) (at + 1 + n) in
      let len : length x ≡ n = length-range buffer at n part.3 in
      let step_is : at + size ≡ at + 1 + n = omega arith in
      let used_is : used + size ≡ used + n + 1 = omega arith in
      let pushed : next ≡ bytes ++ (length x ∷ x) =
      next_is ∙ ap (λ (k : ℕ). bytes ++ slice_range buffer at k) step_is
      ∙ ap (λ (xs : List ℕ). bytes ++ xs) (label_range buffer at n part.0 part.3) in
      let labels : labels_of next ≡ labels_of bytes ++ x ∷ [] =
      ap labels_of pushed ∙ labels_of-push bytes x gathers.wire in
      let read : Labels = labels_at buffer start (at + 1 + n) (used + n + 1) in
      let goes_on : labels_at buffer first first before ≡ with_front (labels_of bytes)
      (ended_at end (with_label x read)) = goes gathers (with_label x read)
      (labels_at-label buffer start at used n part.0 part.1 part.2 part.3 (omega arith)) in
      let here : labels_at buffer start (at + size) (used + size) ≡ read =
      ap (λ (k : ℕ). labels_at buffer start k (used + size)) step_is
      ∙ ap (labels_at buffer start (at + 1 + n)) used_is in
      record {
        so_far = ap (λ (r : Labels). with_front (labels_of next) (ended_at end r)) here
            ∙ ap (λ (front : List (List ℕ)). with_front front (ended_at end read)) labels
            ∙ sym (push_front (labels_of bytes) x end read) ∙ sym goes_on;
        wire = subst IsWire (sym pushed) (IsWire-push bytes x gathers.wire (omega (arith, part.1))
            (omega (arith, part.2)) (omega (arith, gathers.len)));
        len = omega (arith, ap length pushed, length-append bytes (length x ∷ x), gathers.len);
        few = omega arith;
        low = gathers.low;
        inside = omega (arith, part.3);
      }

-- the bytes of labels after those before them
joined : (bytes items : List ℕ) → IsWire bytes → IsWire items
    → bytes ++ items ≡ wire_of (labels_of bytes ++ labels_of items)
joined bytes items b i =
    ap (λ (xs : List ℕ). xs ++ items) (sym b.whole)
    ∙ ap (λ (xs : List ℕ). wire_of (labels_of bytes) ++ xs) (sym i.whole)
    ∙ sym (wire_of-append (labels_of bytes) (labels_of items))

pub IsWire-append : (bytes items : List ℕ) → IsWire bytes → IsWire items → length bytes + length items ≤ 254
    → IsWire (bytes ++ items)
IsWire-append bytes items b i short =
    let is = joined bytes items b i in
    let labels : labels_of (bytes ++ items) ≡ labels_of bytes ++ labels_of items = labels_of_is (bytes ++ items) _ is in
    record {
      whole = ap wire_of labels ∙ sym is;
      labels = subst AreLabels (sym labels) (AreLabels-append (labels_of bytes) (labels_of items) b.labels i.labels);
      short = omega (arith, length-append bytes items);
    }

-- what was read is spelled
pub spelled_is : (B : List ℕ) (t used e : ℕ) (xs : List ℕ) → used ≤ 254 → labels_at B t t used ≡ Ok (labels_of xs, e)
    → Spelled B (labels_of xs) t t e
spelled_is B t used e xs few is = right (labels_at B t t used) is (labels_right B t t used few) where
  right : (r : Labels) → r ≡ Ok (labels_of xs, e) → IsRight B t t used r → Spelled B (labels_of xs) t t e
  right (Ok r) same is_right =
      let equal : r ≡ (labels_of xs, e) = cc in
      subst (λ (p : List (List ℕ) × ℕ). Spelled B p.0 t t p.1) equal is_right.0
  right (Err f) same is_right = absurd cc

-- a target that is kept ends the walk
module _ {buffer : List ℕ} {first before start at used : ℕ} {bytes : List ℕ} {end : Option ℕ}
    (gathers : Gathers buffer first before start at used bytes end)
    {t : ℕ} (is : part_at buffer at ≡ Ok (pointer_to t)) (below : t < start)
    {items : List ℕ} (kept : IsKept buffer t items) where
  goes_there : labels_at buffer first first before ≡ with_front (labels_of bytes)
      (ended_at end (ending (at + 2) (labels_at buffer t t used)))
  goes_there = goes gathers (ending (at + 2) (labels_at buffer t t used))
      (labels_at-part buffer start at used (Ok (pointer_to t)) (few gathers) is
      ∙ cond-false (nat_le start t) _ _ (lt-leb start t below))

  pub at_kept : used + length items + 1 ≤ 255
      → labels_at buffer first first before ≡ Ok (labels_of (bytes ++ items), unwrap_or end (at + 2))
  at_kept short =
      let size = size_of-labels_of items kept.wire in
      let there : labels_at buffer t t used ≡ Ok (labels_of items, kept.end) =
      labels_again used kept.spelled (omega (arith, size)) in
      let labels : labels_of (bytes ++ items) ≡ labels_of bytes ++ labels_of items =
      labels_of_is (bytes ++ items) _ (joined bytes items gathers.wire kept.wire) in
      goes_there ∙ ap (λ (r : Labels). with_front (labels_of bytes) (ended_at end (ending (at + 2) r))) there
      ∙ at_end end ∙ ap (λ (ls : List (List ℕ)). Ok (ls, unwrap_or end (at + 2))) (sym labels) where
        at_end : (end : Option ℕ) → with_front (labels_of bytes) (ended_at end (Ok (labels_of items, at + 2))) ≡ Ok
            (labels_of bytes ++ labels_of items, unwrap_or end (at + 2))
        at_end None = refl
        at_end (Some e) = refl

  at_kept_long : 255 < used + length items + 1 → labels_at buffer first first before ≡ Err faults.BadName
  at_kept_long long =
      let size = size_of-labels_of items kept.wire in
      goes_there ∙ ap (λ (r : Labels). with_front (labels_of bytes) (ended_at end (ending (at + 2) r)))
      (labels_too_long used (few gathers) kept.spelled (omega (arith, size))) ∙ at_err end where
        at_err : (end : Option ℕ) → with_front (labels_of bytes) (ended_at end (Err faults.BadName))
            ≡ Err faults.BadName
        at_err None = refl
        at_err (Some e) = refl

-- a pointer that may not lead there, or leads to too much, is refused
pub pointer_refused : {buffer : List ℕ} {first before start at used t : ℕ} {bytes : List ℕ} {end : Option ℕ}
    → Gathers buffer first before start at used bytes end → part_at buffer at ≡ Ok (pointer_to t)
    → (t < start → AreTooLong buffer t used) → labels_at buffer first first before ≡ Err faults.BadName
pointer_refused {start = start} {t = t} gathers is long = elim (cases_lt t start) [
  | inl below ↦ at_kept_long gathers is below (long below).kept (omega (arith, (long below).long))
  | inr above ↦ at_forward gathers t is above
]
