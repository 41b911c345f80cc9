-- The pieces of a name: labels up to a zero byte or a pointer.
use Rattle.std.proofs.Common.{◌≡◌, ℕ, ◌+◌, ◌-◌, ◌<◌, ◌≤◌, List, [], ◌∷◌, ◌++◌, length, take, drop, get_or, inl, inr}
use Rattle.std.proofs.Common.{Option, None, Some, Result, Ok, Err, true, refl, ap, sym, ◌∙◌, subst, arith, append_assoc}
use Rattle.std.proofs.Common.{get_or-take, length-drop, length-take}
use Rattle.std.proofs.Math.Seq.{take-add}
use Rattle.std.proofs.lemmas.Bool.{cases_lt, false≢true}
use Rattle.std.proofs.lemmas.List.{append-nil, drop-drop, get_or-drop}
use Rattle.std.specs.FinSet as set
use Rattle.std.specs.Prelude.{IfSome}
use Rattle.std.specs.Ordering.{nat_cmp}
use Rattle.std.specs.List.{slice_range}
use Rattle.base.specs.reading.Pointers.{AreTooLong, IsKept}
use Rattle.base.specs.reading.Pieces.{IsPiece, IsRefusedIn, LabelsUpTo, RefusedAt, ending_of, no_label, one_more}
use Rattle.base.specs.reading.Pieces.{nothing_there, too_long}
use Rattle.base.specs.names.Labels.{IsWire, labels_of}
use Rattle.base.specs.reading.Names.{NamePart, label_of, labels_at, part_at}
use Rattle.base.specs.declared.name.reading.NamePiece.{NamePiece}
use Rattle.base.specs.reading.Spelling.{ByteAt, Spelled, anywhere}
use Rattle.base.specs.reading.Passing.{IsClosed, PassesKept, is_among, passed}
use Rattle.base.specs.declared.error.decode_error.DecodeError.{DecodeError}
use Rattle.base.specs.declared.error.decode_error.DecodeError.TheVariants as faults
use Rattle.base.proofs.reading.GatherLemmas.{Gathers, IsWire-append, at_fault, at_kept, at_long, at_root, gathers_label}
use Rattle.base.proofs.reading.GatherLemmas.{fails, gathers_none, gathers_pointer, pointer_refused, spelled_is}
use Rattle.base.proofs.reading.PassLemmas.{Leads, Leads-label, Leads-none, Rest, kept_next, passes_next, passes_none}
use Rattle.base.proofs.reading.WalkLemmas.{PartIs, byte, is_past, is_root, is_cut_label, is_label, is_bits}
use Rattle.base.proofs.reading.WalkLemmas.{is_cut_pointer, is_pointer, part_is}
use Rattle.base.proofs.reading.WalkLemmas.{part_at-past, part_at-root, part_at-cut_label, part_at-label, part_at-bits}
use Rattle.base.proofs.reading.WalkLemmas.{part_at-cut_pointer, part_at-pointer}

-- ---- what stands at a place of a piece stands in the buffer

in_buffer : (bytes : List ℕ) (s : ℕ) {k b : ℕ} → ByteAt anywhere (drop s bytes) k b → ByteAt anywhere bytes (s + k) b
in_buffer bytes s {k} h = record {
  inside = omega (arith, h.inside, length-drop s bytes);
  is = sym (get_or-drop s bytes k 0) ∙ h.is;
  seen = tt;
}

part_in_buffer : (bytes : List ℕ) (s k : ℕ) (read : Result NamePart DecodeError) → PartIs (drop s bytes) k read
    → part_at bytes (s + k) ≡ read
part_in_buffer bytes s k _ (is_past h) = part_at-past bytes (s + k) (omega (arith, length-drop s bytes))
part_in_buffer bytes s k _ (is_root h) = part_at-root bytes (s + k) (in_buffer bytes s h)
part_in_buffer bytes s k _ (is_cut_label {n = n} h some small cut) =
    part_at-cut_label bytes (s + k) n (in_buffer bytes s h) some small (omega (arith, length-drop s bytes))
part_in_buffer bytes s k _ (is_label {n = n} h some small fits) =
    part_at-label bytes (s + k) n (in_buffer bytes s h) some small (omega (arith, in_piece h fits)) where
      in_piece : ByteAt anywhere (drop s bytes) k n → k + 1 + n ≤ length (drop s bytes) → s + k + 1 + n ≤ length bytes
      in_piece b inside = omega (arith, inside, length-drop s bytes)
part_in_buffer bytes s k _ (is_bits {b = b} h low high) = part_at-bits bytes (s + k) b (in_buffer bytes s h) low high
part_in_buffer bytes s k _ (is_cut_pointer {b = b} h high cut) =
    part_at-cut_pointer bytes (s + k) b (in_buffer bytes s h) high (omega (arith, length-drop s bytes))
part_in_buffer bytes s k _ (is_pointer {b = b} {c = c} h next high) =
    let there : s + (k + 1) ≡ s + k + 1 = omega arith in
    part_at-pointer bytes (s + k) b c (in_buffer bytes s h)
    (subst (λ (i : ℕ). ByteAt anywhere bytes i c) there (in_buffer bytes s next)) high

-- what stands at a place of the bytes from s on
pub part_is_there : (bytes piece : List ℕ) (s k : ℕ) (part : Result NamePart DecodeError) → piece ≡ drop s bytes
    → part_at piece k ≡ part → part_at bytes (s + k) ≡ part
part_is_there bytes piece s k part same is =
    part_in_buffer bytes s k (part_at (drop s bytes) k) (part_is (drop s bytes) k)
    ∙ ap (λ (xs : List ℕ). part_at xs k) (sym same) ∙ is

-- ---- the labels of a piece, one after another

-- what holds at the front, and after a label where it holds before that, holds after them all
over_labels : {bytes : List ℕ} {j : ℕ} (P : ℕ → Type 0) → LabelsUpTo bytes j → P 0
    → ((i n : ℕ) → i + (1 + n) ≤ j → part_at bytes i ≡ Ok (label_of n) → P i → P (i + (1 + n))) → P j
over_labels P no_label first step = first
over_labels P (one_more {i = i} {n = n} labels is) first step =
    step i n (omega arith) is
    (over_labels P labels first (λ k m inside part. step k m (omega (arith, inside)) part))

module _ (buffer : List ℕ) (s : ℕ) {len : ℕ} (labels : LabelsUpTo (drop s buffer) len) where
  abbrev piece : List ℕ
  piece = drop s buffer

  there : (k : ℕ) (part : Result NamePart DecodeError) → part_at (drop s buffer) k ≡ part
      → part_at buffer (s + k) ≡ part
  there k part is = part_is_there buffer (drop s buffer) s k part refl is

  pub gathers_piece : {first before used : ℕ} {bytes : List ℕ} {end : Option ℕ}
      → Gathers buffer first before s s used bytes end → used + len ≤ 254
      → Gathers buffer first before s (s + len) (used + len) (bytes ++ take len (drop s buffer)) end
  gathers_piece {first} {before} {used} {bytes} {end} g short =
      let So : ℕ → Type 0 = λ k. Gathers buffer first before s (s + k) (used + k) (bytes ++ take k piece) end in
      let here : s ≡ s + 0 = omega arith in
      let same : used ≡ used + 0 = omega arith in
      over_labels So labels
      (subst (λ (k : ℕ). Gathers buffer first before s k (used + 0) (bytes ++ []) end) here
      (subst (λ (u : ℕ). Gathers buffer first before s s u (bytes ++ []) end) same
      (subst (λ (xs : List ℕ). Gathers buffer first before s s used xs end) (sym (append-nil bytes)) g)))
      (λ i n inside is so.
      let at = s + i in
      let size = 1 + n in
      let from : drop i piece ≡ drop at buffer = drop-drop i s buffer ∙ ap (λ (k : ℕ). drop k buffer) (omega arith) in
      let many : size ≡ at + size - at = omega arith in
      let more : take (i + size) piece ≡ take i piece ++ slice_range buffer at (at + size) =
      take-add i size piece ∙ ap (λ (xs : List ℕ). take i piece ++ take size xs) from
      ∙ ap (λ (k : ℕ). take i piece ++ take k (drop at buffer)) many in
      let all : bytes ++ take (i + size) piece ≡ (bytes ++ take i piece) ++ slice_range buffer at (at + size) =
      ap (λ (xs : List ℕ). bytes ++ xs) more ∙ sym
      (append_assoc bytes (take i piece) (slice_range buffer at (at + size))) in
      let next : at + size ≡ s + (i + size) = omega arith in
      let sum : used + i + size ≡ used + (i + size) = omega arith in
      subst (λ (k : ℕ). Gathers buffer first before s k (used + (i + size)) (bytes ++ take (i + size) piece) end) next
      (subst (λ (u : ℕ). Gathers buffer first before s (at + size) u (bytes ++ take (i + size) piece) end) sum
      (gathers_label so n size (bytes ++ take (i + size) piece) (there i (Ok (label_of n)) is) refl
      (omega (arith, inside, short)) all)))

  pub leads_piece : Leads buffer s (s + len)
  leads_piece =
      let here : s ≡ s + 0 = omega arith in
      over_labels (λ k. Leads buffer s (s + k)) labels (subst (Leads buffer s) here (Leads-none buffer s))
      (λ i n inside is so. Leads-label so (there i (Ok (label_of n)) is) (omega arith))

-- what ends a piece stands in the buffer
pub piece_end : (buffer : List ℕ) (s : ℕ) {bytes : List ℕ} {before : ℕ} {piece : NamePiece} → bytes ≡ drop s buffer
    → IsPiece bytes before piece → part_at buffer (s + piece.len) ≡ Ok (ending_of piece.pointer)
piece_end buffer s {bytes} {piece = of} same p = part_is_there buffer bytes s of.len _ same p.end

pub piece_fits : {bytes : List ℕ} {before : ℕ} {piece : NamePiece} → IsPiece bytes before piece
    → piece.len ≤ length bytes
piece_fits {bytes} {piece = of} p = elim (cases_lt (length bytes) of.len) [
  | inl past ↦ absurd (cc (sym (part_at-past bytes of.len (omega (arith, past))) ∙ p.end))
  | inr inside ↦ inside
]

-- a name is refused where one of its pieces is
pub piece_refused : {buffer piece : List ℕ} {first before s used : ℕ} {bytes : List ℕ} {end : Option ℕ}
    {e : DecodeError} → Gathers buffer first before s s used bytes end
    → piece ≡ drop s buffer → IsRefusedIn piece used e → labels_at buffer first first before ≡ Err e
piece_refused {buffer} {piece} {first} {before} {s} {used} {bytes} {end} {e} g same refused = go e r.refused where
  r : IsRefusedIn (drop s buffer) used e
  r = subst (λ (xs : List ℕ). IsRefusedIn xs used e) same refused

  there : (part : Result NamePart DecodeError) → part_at (drop s buffer) r.at ≡ part → part_at buffer (s + r.at) ≡ part
  there part is = part_is_there buffer (drop s buffer) s r.at part refl is

  go : (f : DecodeError) → RefusedAt (drop s buffer) used r.at f → labels_at buffer first first before ≡ Err f
  go f (nothing_there is) = at_fault (gathers_piece buffer s r.labels g r.short) f (there (Err f) is)
  go f (too_long {n = n} is long) = at_long (gathers_piece buffer s r.labels g r.short) n (there (Ok (label_of n)) is)
      (omega (arith, long))

-- ---- the piece that is read at the front of bytes, over those of them that a name has at most

-- The bytes are walked up to here, by the length of each label.
pub data WalkedTo (near : List ℕ) : ℕ → Type 0 where
  at_front : WalkedTo near 0
  past : {i n : ℕ} → WalkedTo near i → ByteAt anywhere near i n → 1 ≤ n → n ≤ 63 → WalkedTo near (i + (1 + n))

-- a byte after labels
pub record AfterLabels (bytes : List ℕ) (before i b : ℕ) : Type 0 where
  pub here : ByteAt anywhere bytes i b
  pub labels : LabelsUpTo bytes i
  pub short : before + i ≤ 254

-- where nothing can stand after labels
pub none_after : {bytes : List ℕ} {before i b : ℕ} {e : DecodeError} → AfterLabels bytes before i b
    → part_at bytes i ≡ Err e → IsRefusedIn bytes before e
none_after {i = i} after is = record { at = i; labels = after.labels; short = after.short; refused = nothing_there is }

module _ (bytes : List ℕ) {near : List ℕ} (m : ℕ) (near_is : near ≡ take m bytes) where
  pub near_fits : (length near ≤ m) × (length near ≤ length bytes)
  near_fits = (
    omega (arith, ap length near_is, length-take m bytes),
    omega (arith, ap length near_is, length-take m bytes),
  )

  -- a byte among the near ones is one of all
  pub in_all : {i b : ℕ} → ByteAt anywhere near i b → ByteAt anywhere bytes i b
  in_all {i} {b} h = record {
    inside = omega (arith, h.inside, near_fits.1);
    is = sym (ap (λ (xs : List ℕ). get_or xs i 0) near_is
        ∙ get_or-take m bytes i 0 (omega (arith, h.inside, near_fits.0))) ∙ h.is;
    seen = tt;
  }

  pub walked_labels : {i : ℕ} → WalkedTo near i → i ≤ length bytes → LabelsUpTo bytes i
  walked_labels at_front inside = no_label
  walked_labels (past {i = i} {n = n} walked h some small) inside =
      one_more (walked_labels walked (omega (arith, inside)))
      (part_at-label bytes i n (in_all h) some small (omega (arith, inside)))

  pub after_labels : {i b : ℕ} (before : ℕ) → m + before ≤ 255 → WalkedTo near i → i < length near → get_or near i 0 ≡ b
      → AfterLabels bytes before i b
  after_labels {i} {b} before few walked begins is = record {
    here = in_all (byte near i b begins is);
    labels = walked_labels walked (omega (arith, begins, near_fits.1));
    short = omega (arith, begins, near_fits.0, few);
  }

  -- the bytes end before the piece does
  pub walked_cut : {i : ℕ} (before : ℕ) → m + before ≤ 255 → WalkedTo near i → length bytes < i
      → IsRefusedIn bytes before faults.InsufficientBytes
  walked_cut before few at_front cut = absurd (omega (arith, cut))
  walked_cut before few (past {i = i} {n = n} walked h some small) cut =
      none_after (after_labels before few walked h.inside h.is)
      (part_at-cut_label bytes i n (in_all h) some small (omega (arith, cut)))

  pub walked_off : {i : ℕ} (before : ℕ) → WalkedTo near i → i ≡ length bytes → before + i ≤ 254
      → IsRefusedIn bytes before faults.InsufficientBytes
  walked_off {i} before walked off short = record {
    at = i;
    labels = walked_labels walked (omega (arith, off));
    short = short;
    refused = nothing_there (part_at-past bytes i (omega (arith, off)));
  }

  -- the name gets too long
  pub walked_long : {i : ℕ} (before : ℕ) → m + before ≤ 255 → before ≤ 254 → WalkedTo near i → i ≤ length bytes
      → 255 ≤ before + i → IsRefusedIn bytes before faults.BadName
  walked_long before few small_before at_front inside long = absurd (omega (arith, small_before, long))
  walked_long before few small_before (past {i = i} {n = n} walked h some small) inside long =
      let after = after_labels before few walked h.inside h.is in
      record {
        at = i;
        labels = after.labels;
        short = after.short;
        refused = too_long (part_at-label bytes i n after.here some small (omega (arith, inside)))
            (omega (arith, long));
      }

-- ---- a piece, and what its pointer leads to

module _ (bytes : List ℕ) (s : ℕ) {front : List ℕ} {before : ℕ} {piece : NamePiece} (inside : s ≤ length bytes)
    (same : front ≡ drop s bytes) (front_is : IsPiece front before piece) where
  is : IsPiece (drop s bytes) before piece
  is = subst (λ (xs : List ℕ). IsPiece xs before piece) same front_is

  abbrev own : List ℕ
  own = take piece.len (drop s bytes)

  pub gathers_own : Gathers bytes s before s (s + piece.len) (before + piece.len) own None
  gathers_own = gathers_piece bytes s is.labels (gathers_none bytes s before inside (omega (arith, is.short))) is.short

  part : {end : NamePart} → ending_of piece.pointer ≡ end → part_at bytes (s + piece.len) ≡ Ok end
  part end_is = piece_end bytes s refl is ∙ ap Ok end_is

  -- the labels that are read
  pub reads_root : piece.pointer ≡ None → labels_at bytes s s before ≡ Ok (labels_of own, s + piece.len + 1)
  reads_root none = at_root gathers_own (part (ap ending_of none))

  module _ {t : ℕ} (some : piece.pointer ≡ Some t) where
    pub reads_next : {items : List ℕ} → t < s → IsKept bytes t items → before + piece.len + length items ≤ 254
        → labels_at bytes s s before ≡ Ok (labels_of (own ++ items), s + piece.len + 2)
    reads_next below kept short = at_kept gathers_own (part (ap ending_of some)) below kept (omega (arith, short))

    pub reads_nowhere : (t < s → AreTooLong bytes t (before + piece.len))
        → labels_at bytes s s before ≡ Err faults.BadName
    reads_nowhere long = pointer_refused gathers_own (part (ap ending_of some)) long

    pub reads_refused : t < s → (f : DecodeError) → labels_at bytes t t (before + piece.len) ≡ Err f
        → labels_at bytes s s before ≡ Err f
    reads_refused below f refused = fails (gathers_pointer gathers_own t (part (ap ending_of some)) below) f refused

    pub wire_next : {items : List ℕ} → IsKept bytes t items → before + piece.len + length items ≤ 254
        → IsWire (own ++ items)
    wire_next {items} kept short = IsWire-append own items gathers_own.wire kept.wire
        (omega (arith, short, gathers_own.len))

    pub piece_next : (xs : List (List ℕ)) (e : ℕ) (h : Spelled bytes xs s s e)
        → Rest bytes t t (λ qs. passed h ≡ t ∷ qs)
    piece_next = passes_next (leads_piece bytes s is.labels) (part (ap ending_of some))

    -- where it leads to a kept offset
    pub kept_piece : {items : List ℕ} → s < 16384 → t < s → IsKept bytes t items
        → before + piece.len + length items ≤ 254 → IsKept bytes s (own ++ items)
    kept_piece {items} near below kept short = record {
      end = _;
      near = near;
      wire = wire_next kept short;
      spelled = spelled_is bytes s before _ (own ++ items) (omega (arith, is.short)) (reads_next below kept short);
    }

  pub piece_root : piece.pointer ≡ None → (xs : List (List ℕ)) (e : ℕ) (h : Spelled bytes xs s s e) → passed h ≡ []
  piece_root none = passes_none (leads_piece bytes s is.labels) (part (ap ending_of none))

  pub root_piece : s < 16384 → piece.pointer ≡ None → IsKept bytes s own
  root_piece near none = record {
    end = _;
    near = near;
    wire = gathers_own.wire;
    spelled = spelled_is bytes s before _ own (omega (arith, is.short)) (reads_root none);
  }

-- all that a piece passes is kept where its pointer leads to a kept offset
pub piece_passes : (bytes : List ℕ) (s : ℕ) {before : ℕ} {piece : NamePiece} (kept : set.FinSet nat_cmp)
    → s ≤ length bytes → IsPiece (drop s bytes) before piece → IsClosed bytes kept
    → IfSome piece.pointer (λ t. set.contains kept t ≡ true) → PassesKept bytes kept s
piece_passes bytes s {before} {piece} kept inside p closed leads = go piece.pointer refl leads where
  go : (o : Option ℕ) → piece.pointer ≡ o → IfSome o (λ t. set.contains kept t ≡ true) → PassesKept bytes kept s
  go None none leads = λ xs e h q in_it. absurd (false≢true
      (ap (λ (qs : List ℕ). is_among qs q) (sym (piece_root bytes s inside refl p none xs e h)) ∙ in_it))
  go (Some t) some has = λ xs e h. kept_next kept has closed (piece_next bytes s inside refl p some xs e h)
