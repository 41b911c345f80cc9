-- What is written of a message, part by part.
use Rattle.std.proofs.Common.{◌≡◌, ℕ, ◌+◌, ◌≤◌, Bool, List, [], ◌∷◌, ◌++◌, length, take, drop, ap, sym, ◌∙◌, subst}
use Rattle.std.proofs.Common.{append_assoc, arith, length-append}
use Rattle.std.specs.Prelude.{All, nat_lt}
use Rattle.std.proofs.lemmas.Bool.{le-ltb, lt-ltb}
use Rattle.std.proofs.lemmas.List.{append-nil}
use Rattle.std.proofs.Math.Seq.{drop-append_seam, take-append_seam}
use Rattle.base.specs.writing.State.{State, Stored, appended, overwritten}
use Rattle.base.specs.writing.Written.{Writing, piece_at, after, both, fitting, in_turn, just, that_fit, FirstPasses}
use Rattle.base.proofs.writing.FittingLemmas.{Fits-front}
use Rattle.base.proofs.writing.WrittenLemmas.{after-both}
use Rattle.op.specs.Cut.{any_lost}
use Rattle.op.specs.Composition.{WritesFront}
use Rattle.op.specs.MessageWritten.{Part, part_after, part_within}

abbrev state : ℕ → ℕ → List ℕ → List Stored → State
state buffer limit bytes suffixes = record { buffer = buffer; bytes = bytes; limit = limit; suffixes = suffixes }

-- Room of as many bytes that is filled after something was written is as if it had been filled from the start.
pub filled : (room xs : List ℕ) (f : Writing) (a : State) → length xs ≡ length room
    → overwritten (length a.bytes) xs (after f (appended room a)) ≡ after (both (just xs) f) a
filled room xs f a size =
    let n = length a.bytes + length xs in
    let place : length (a.bytes ++ room) ≡ n = omega (arith, length-append a.bytes room, size) in
    let p = f n a.suffixes in
    let all = (a.bytes ++ room) ++ p.bytes in
    let front : take (length a.bytes) all ≡ a.bytes =
    ap (take (length a.bytes)) (append_assoc a.bytes room p.bytes) ∙ take-append_seam a.bytes (room ++ p.bytes) in
    let back : drop n all ≡ p.bytes = ap (λ (k : ℕ). drop k all) (sym place)
    ∙ drop-append_seam (a.bytes ++ room) p.bytes in
    ap (λ (k : ℕ). overwritten (length a.bytes) xs
    (state a.buffer a.limit ((a.bytes ++ room) ++ (f k a.suffixes).bytes) (f k a.suffixes).suffixes)) place
    ∙ ap (λ (ys : List ℕ). state a.buffer a.limit (ys ++ (xs ++ drop n all)) p.suffixes) front
    ∙ ap (λ (ys : List ℕ). state a.buffer a.limit (a.bytes ++ (xs ++ ys)) p.suffixes) back

-- ---- a part

pub lost_told : {E : Type 0} (kept lost : List E) → nat_lt (length kept) (length (kept ++ lost)) ≡ any_lost lost
lost_told kept [] = le-ltb (length kept) (length (kept ++ [])) (omega (arith, ap length (append-nil kept)))
lost_told kept (x ∷ lost) = lt-ltb (length kept) (length (kept ++ x ∷ lost))
    (omega (arith, length-append kept (x ∷ lost)))

-- a part was written between two states under a limit, with as many values, and cut or not
pub record IsPart {E : Type 0} (fits : E → Type 0) (f : E → Writing) (p : Part E) (limit : ℕ) (s t : State) (n : ℕ)
    (is_cut : Bool) : Type 0 where
  pub exact : t ≡ after (in_turn f p.kept) s
  pub end : p.end ≡ length t.bytes
  pub suffixes : p.piece.suffixes ≡ t.suffixes
  pub counted : n ≡ length p.kept
  pub tells : is_cut ≡ p.is_cut
  pub same : t.limit ≡ limit
  pub within : length t.bytes ≤ limit
  pub fit : All fits p.kept

module _ {E : Type 0} {fits : E → Type 0} {f : E → Writing} {xs : List E} {a b : State} {n : ℕ} {is_cut : Bool} where
  -- a front that was written is as much of the values as fits
  pub part_stands : WritesFront fits f xs a b n is_cut → (limit : ℕ) → a.limit ≡ limit → length a.bytes ≤ limit
      → (at : ℕ) (stored : List Stored) → at ≡ length a.bytes → stored ≡ a.suffixes
      → IsPart fits f (part_within f limit xs at stored) limit a b n is_cut
  part_stands w limit same began at stored at_is stored_is =
      let within : length b.bytes ≤ limit = omega (arith, w.within, same, began) in
      let kept : that_fit f limit xs (length a.bytes) a.suffixes ≡ w.kept = ap
      (λ (ys : List E). that_fit f limit ys (length a.bytes) a.suffixes) w.whole
      ∙ Fits-front f limit w.kept w.lost a b w.exact within
      (subst (λ (l : ℕ). FirstPasses f l b w.lost) same w.passes) in
      let exact : b ≡ after (fitting f limit xs) a = w.exact
      ∙ ap (λ (ys : List E). after (in_turn f ys) a) (sym kept) in
      let tells = ap (λ (ys : List E). nat_lt (length ys) (length xs)) kept
      ∙ ap (λ (ys : List E). nat_lt (length w.kept) (length ys)) w.whole ∙ lost_told w.kept w.lost in
      subst (λ (k : ℕ). IsPart fits f (part_within f limit xs k stored) limit a b n is_cut) (sym at_is)
      (subst (λ (ts : List Stored). IsPart fits f (part_within f limit xs (length a.bytes) ts) limit a b n is_cut)
      (sym stored_is) (record {
        exact = exact;
        end = sym (ap (λ (u : State). length u.bytes) exact
            ∙ length-append a.bytes (piece_at (fitting f limit xs) a).bytes);
        suffixes = sym (ap (λ (u : State). u.suffixes) exact);
        counted = w.counted ∙ ap length (sym kept);
        tells = w.tells ∙ sym tells;
        same = ap (λ (u : State). u.limit) exact ∙ same;
        within = within;
        fit = subst (All fits) (sym kept) w.fit;
      }))

  -- and so it does after a part
  pub part_next : {D : Type 0} {kept : D → Type 0} {g : D → Writing} {p : Part D} {limit : ℕ} {s : State} {k : ℕ}
      {c : Bool} → IsPart kept g p limit s a k c → WritesFront fits f xs a b n is_cut
      → IsPart fits f (part_after f limit xs p) limit a b n is_cut
  part_next {p = p} {limit} before w = part_stands w limit before.same before.within p.end p.piece.suffixes before.end
      before.suffixes

-- this was written between two states
pub record Wrote (g : Writing) (s u : State) : Type 0 where
  pub is : u ≡ after g s

-- a part, and what was written after it
pub part_then : {E : Type 0} {fits : E → Type 0} {f : E → Writing} {p : Part E} {limit : ℕ} {s t u : State} {n : ℕ}
    {c : Bool} {g : Writing} → IsPart fits f p limit s t n c → Wrote g t u → Wrote (both (in_turn f p.kept) g) s u
part_then {f = f} {p} {s = s} {g = g} part rest =
    record { is = rest.is ∙ ap (after g) part.exact ∙ sym (after-both (in_turn f p.kept) g s) }
