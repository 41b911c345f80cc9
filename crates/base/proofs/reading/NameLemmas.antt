-- What the read of a name leaves of a decoder.
use Rattle.std.proofs.Common.{◌≡◌, ℕ, ◌+◌, ◌<◌, ◌≤◌, List, [], ◌∷◌, ◌++◌, length, drop, None, Some, Ok}
use Rattle.std.proofs.Common.{true, false, refl, ap, sym, ◌∙◌, subst, arith}
use Rattle.std.proofs.lemmas.List.{append-nil}
use Rattle.std.proofs.lemmas.List.Elements.{All-cons, All-nil}
use Rattle.std.specs.FinSet as set
use Rattle.std.specs.Ordering.{nat_cmp}
use Rattle.base.specs.declared.name.reading.NamePiece.{NamePiece}
use Rattle.base.specs.names.Labels.{labels_of}
use Rattle.base.specs.reading.Names.{labels_at}
use Rattle.base.specs.reading.Passing.{IsClosed, is_among, inserted, no_names, one_more, passed}
use Rattle.base.specs.reading.Pieces.{IsPiece}
use Rattle.base.specs.reading.Pointers.{Fit, IsAdded, IsKept}
use Rattle.base.specs.reading.Reader.{Reader}
use Rattle.base.specs.reading.Spelling.{Spelled}
use Rattle.base.specs.reading.Tracks.{IsBounded, IsCounted, Tracked}
use Rattle.base.proofs.reading.CountLemmas.{contains-inserted, ends_after, inserted-none, inserted-same}
use Rattle.base.proofs.reading.GatherLemmas.{spelled_is}
use Rattle.base.proofs.reading.PassLemmas.{kept_next}
use Rattle.base.proofs.reading.PieceLemmas.{piece_next, piece_root}
use Rattle.base.proofs.reading.TargetLemmas.{or_same}
use Rattle.std.proofs.lemmas.Bool.{eq-eqb, false≢true}
use Rattle.std.specs.Prelude.{nat_eq, if◌then◌else◌}

-- the targets of the pointers in a name's spelling are kept in addition
abbrev pub Adds : Reader → set.FinSet nat_cmp → Type 0
Adds old kept = (xs : List (List ℕ)) (e : ℕ) (h : Spelled old.bytes xs old.index old.index e)
    → kept ≡ inserted (passed h) old.kept

-- what a name keeps, and where the decoder stands after it
pub record NameRead (old last : Reader) : Type 0 where
  pub tracks : Tracked (old.index ∷ []) old last
  pub passes : Adds old last.kept

pub name_read : {old mid last : Reader} {end : ℕ} (labels : List ℕ)
    → labels_at old.bytes old.index old.index 0 ≡ Ok (labels_of labels, end) → Adds old mid.kept
    → mid ≡ record old { kept = mid.kept; jumps = mid.jumps } → (IsCounted old → IsCounted mid)
    → last ≡ record mid { index = end } → NameRead old last
name_read {old} {mid} {last} {end} labels read adds mid_is counts last_is =
    let h = spelled_is old.bytes old.index 0 end labels (omega arith) read in
    let on : old.index < last.index = omega (arith, ap (λ (r : Reader). r.index) last_is, ends_after h) in
    let passes : Adds old last.kept = λ xs e h. ap (λ (r : Reader). r.kept) last_is ∙ adds xs e h in
    record {
      passes = passes;
      tracks = record {
        bytes = ap (λ (r : Reader). r.bytes) last_is ∙ ap (λ (r : Reader). r.bytes) mid_is;
        on = omega (arith, on);
        before = All-cons (λ (i : ℕ). i < last.index) old.index [] on (All-nil (λ (i : ℕ). i < last.index));
        offsets = passed h ++ [];
        pass = one_more h no_names;
        exact = passes (labels_of labels) end h ∙ ap (λ (qs : List ℕ). inserted qs old.kept)
            (sym (append-nil (passed h)));
        counts = λ counted.
            let now = counts counted in
            record {
              exact = ap (λ (r : Reader). r.jumps) last_is ∙ now.exact
                  ∙ ap (λ (r : Reader). set.len r.kept) (sym last_is);
              few = omega (arith, now.few, ap (λ (r : Reader). set.len r.kept) last_is);
            };
      };
    }

module _ (old : Reader) {front : List ℕ} {piece : NamePiece} (inside : old.index ≤ length old.bytes)
    (same : front ≡ drop old.index old.bytes) (stands : IsPiece front 0 piece) where
  pub adds_root : piece.pointer ≡ None → Adds old old.kept
  adds_root none xs e h = sym (ap (λ (qs : List ℕ). inserted qs old.kept)
      (piece_root old.bytes old.index inside same stands none xs e h) ∙ inserted-none old.kept)

  module _ {t : ℕ} (some : piece.pointer ≡ Some t) where
    pub adds_kept : set.contains old.kept t ≡ true → IsClosed old.bytes old.kept → Adds old old.kept
    adds_kept has closed xs e h = sym (inserted-same (passed h) old.kept
        (kept_next old.kept has closed (piece_next old.bytes old.index inside same stands some xs e h)))

    pub adds_new : {new : Reader} → IsAdded t old new → Adds old new.kept
    adds_new added xs e h =
        let r = piece_next old.bytes old.index inside same stands some xs e h in
        added.kept r.labels r.end r.spelled ∙ ap (λ (qs : List ℕ). inserted qs old.kept) (sym r.passes)

-- ---- the labels at a target are looked for, and for a second time once they are kept

-- The decoder is as it was, or keeps the target in addition, whose labels fit.
pub data Looks (old : Reader) (t used : ℕ) (now : Reader) : Type 0 where
  before : now ≡ old → Looks old t used now
  kept_since : Fit old.bytes t used → IsAdded t old now → Looks old t used now

-- where these labels were found for the target
pub record Found (old now : Reader) (t used : ℕ) (items : List ℕ) : Type 0 where
  pub kept : IsKept old.bytes t items
  pub short : used + length items ≤ 254
  pub adds : Adds old now.kept
  pub now_is : now ≡ record old { kept = now.kept; jumps = now.jumps }
  pub counts : IsCounted old → IsCounted now

added_has : {old new : Reader} {t used : ℕ} → Fit old.bytes t used → IsAdded t old new
    → set.contains new.kept t ≡ true
added_has {old} {t = t} fit added =
    let h = fit.kept.spelled in
    ap (λ (s : set.FinSet nat_cmp). set.contains s t) (added.kept _ _ h)
    ∙ contains-inserted (t ∷ passed h) old.kept t
    ∙ or_same (set.contains old.kept t) (nat_eq t t) (is_among (passed h) t) (eq-eqb t t refl)

module _ {old now : Reader} {t used : ℕ} where
  pub looks_bytes : Looks old t used now → now.bytes ≡ old.bytes
  looks_bytes (before is) = ap (λ (r : Reader). r.bytes) is
  looks_bytes (kept_since fit added) = ap (λ (r : Reader). r.bytes) added.now

  pub looks_bounded : Looks old t used now → IsBounded old now
  looks_bounded (before is) counted =
      omega (arith, ap (λ (r : Reader). r.jumps) is, counted.exact, counted.few)
  looks_bounded (kept_since fit added) counted =
      let now_counted = added.counts counted in
      omega (arith, now_counted.exact, now_counted.few)

  -- where it isn't kept, nothing was
  pub looks_first : Looks old t used now → set.contains now.kept t ≡ false → now ≡ old
  looks_first (before is) absent = is
  looks_first (kept_since fit added) absent = absurd (false≢true (sym absent ∙ added_has fit added))

-- how many looks are left
abbrev pub looks_left : Reader → ℕ → ℕ
looks_left now t = if set.contains now.kept t then 0 else 1

pub looks_less : {old now : Reader} {t used : ℕ} → Fit old.bytes t used → IsAdded t old now
    → set.contains old.kept t ≡ false → looks_left now t < looks_left old t
looks_less fit added absent = rw (added_has fit added, absent) (omega arith)

module _ (old : Reader) {front : List ℕ} {piece : NamePiece} {t : ℕ} (inside : old.index ≤ length old.bytes)
    (same : front ≡ drop old.index old.bytes) (stands : IsPiece front 0 piece) (some : piece.pointer ≡ Some t) where
  pub looks_found : {now : Reader} {items : List ℕ} → Looks old t piece.len now → set.contains now.kept t ≡ true
      → IsKept now.bytes t items → piece.len + length items ≤ 254 → IsClosed now.bytes now.kept
      → Found old now t piece.len items
  looks_found {items = items} (before is) has_now kept_now short closed_now = subst
      (λ (r : Reader). set.contains r.kept t ≡ true → IsKept r.bytes t items → IsClosed r.bytes r.kept
      → Found old r t piece.len items) (sym is)
      (λ has kept closed. record {
        kept = kept;
        short = short;
        adds = adds_kept old inside same stands some has closed;
        now_is = refl;
        counts = λ counted. counted;
      }) has_now kept_now closed_now
  looks_found {items = items} (kept_since fit added) has kept short closed = record {
    kept = subst (λ (bs : List ℕ). IsKept bs t items) (ap (λ (r : Reader). r.bytes) added.now) kept;
    short = short;
    adds = adds_new old inside same stands some added;
    now_is = added.now;
    counts = added.counts;
  }
