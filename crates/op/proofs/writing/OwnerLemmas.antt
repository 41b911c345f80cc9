-- Owners that are written after owners, and the words of a part of a message.
use Rattle.std.proofs.Common.{◌≡◌, ℕ, ◌+◌, ◌<◌, List, [], ◌∷◌, ◌++◌, length, ap, sym, ◌∙◌, subst, arith, refl}
use Rattle.std.proofs.Common.{append_assoc, length-append}
use Rattle.std.specs.Prelude.{All, Any, ◌≢◌}
use Rattle.std.proofs.lemmas.List.{append-nil}
use Rattle.std.proofs.lemmas.List.Elements.{All-append, All-cons, All-nil, All-tail, All-weaker}
use Rattle.base.specs.writing.Laws.{IsSpelled}
use Rattle.base.specs.writing.Says.{IsOwned, IsThere, Says}
use Rattle.base.specs.writing.SaysParts.{any_append, last_stands}
use Rattle.base.specs.reading.Spelling.{Spelled}
use Rattle.base.specs.writing.State.{Stored}
use Rattle.base.specs.WordLemmas.{first_stands}
use Rattle.base.specs.Words.{BackToBack}
use Rattle.base.specs.Words.BackToBack.{none, more}
use Rattle.base.specs.writing.Written.{Piece, Writing, in_turn}
use Rattle.base.proofs.reading.SpellingLemmas.{spelled_once}
use Rattle.op.specs.Cut.{AreCompressed, PointsToEarlier, OwnerAt, owners_by}

-- an owner is stored, if a pointer can point to it
abbrev pub IsKnown : List Stored → OwnerAt → Type 0
IsKnown ts o = o.labels ≢ [] → o.start < 16384 → Any (λ t. t.labels ≡ o.labels) ts

-- suffixes that are stored after these
pub record Grows (ts us : List Stored) : Type 0 where
  pub added : List Stored
  pub is : us ≡ ts ++ added

pub grows_none : (ts : List Stored) → Grows ts ts
grows_none ts = record { added = []; is = sym (append-nil ts) }

pub grows_then : {ts us vs : List Stored} → Grows ts us → Grows us vs → Grows ts vs
grows_then {ts} g h = record {
  added = g.added ++ h.added;
  is = h.is ∙ ap (λ xs. xs ++ h.added) g.is ∙ append_assoc ts g.added h.added;
}

known_later : {ts us : List Stored} → Grows ts us → (o : OwnerAt) → IsKnown ts o → IsKnown us o
known_later {ts} {us} g o known some early = any_append (λ t. t.labels ≡ o.labels) ts g.added us g.is (known some early)

-- Owners that are written after these suffixes, and leave those: each is short after those before it, and after those
-- that were known, and all are known then.
pub record AreOwned (os : List OwnerAt) (ts us : List Stored) : Type 0 where
  pub short : AreCompressed os
  pub after_known : (o : OwnerAt) → IsKnown ts o → All (PointsToEarlier o) os
  pub known : All (IsKnown us) os

-- of none
pub owned_none : (ts : List Stored) → AreOwned [] ts ts
owned_none ts = record {
  short = tt;
  after_known = λ o known. All-nil (PointsToEarlier o);
  known = All-nil (IsKnown ts);
}

compressed-append : (os ps : List OwnerAt) → AreCompressed os → AreCompressed ps
    → All (λ o. All (PointsToEarlier o) ps) os → AreCompressed (os ++ ps)
compressed-append [] ps short later all = later
compressed-append (o ∷ os) ps short later all = (
  All-append (PointsToEarlier o) os ps short.0 (all 0 o (omega arith)),
  compressed-append os ps short.1 later (All-tail (λ p. All (PointsToEarlier p) ps) o os all),
)

-- one after the other
pub owned_then : {os ps : List OwnerAt} {ts us vs : List Stored} → Grows ts us → Grows us vs → AreOwned os ts us
    → AreOwned ps us vs → AreOwned (os ++ ps) ts vs
owned_then {os} {ps} {ts} {us} {vs} kept later first second = record {
  short = compressed-append os ps first.short second.short
      (All-weaker (IsKnown us) (λ o. All (PointsToEarlier o) ps) second.after_known os first.known);
  after_known = λ o known. All-append (PointsToEarlier o) os ps (first.after_known o known)
      (second.after_known o (known_later kept o known));
  known = All-append (IsKnown vs) os ps (All-weaker (IsKnown us) (IsKnown vs) (known_later later) os first.known)
      second.known;
}

any_weaker : (P Q : Stored → Type 0) (ts : List Stored) → ((t : Stored) → P t → Q t) → Any P ts → Any Q ts
any_weaker P Q ts f (k, t, inside, at, holds) = (k, t, inside, at, f t holds)

no_front : (front ls : List (List ℕ)) → front ++ ls ≡ [] → ls ≡ []
no_front [] ls is = is
no_front (x ∷ front) ls is = cc

abbrev written_at : ℕ → List (List ℕ) → ℕ → OwnerAt
written_at at owner end = record { start = at; labels = owner; end = end }

module _ {p : Piece} {at : ℕ} {stored : List Stored} {F : Type 0} {B : List ℕ} (owner : List (List ℕ)) (end : ℕ)
    (ok : F) (own : IsOwned p at stored F owner) (there : IsThere p B at stored)
    (spelled : Spelled B owner at at end) where
  -- it is short after one that is known
  one_short : (earlier : OwnerAt) → IsKnown stored earlier → PointsToEarlier earlier (written_at at owner end)
  one_short earlier known some early front same =
      let owned : owner ≢ [] = λ empty. some (no_front front earlier.labels (sym same ∙ empty)) in
      let found = any_weaker (λ t. t.labels ≡ earlier.labels) (λ t. owner ≡ front ++ t.labels) stored
      (λ t is. same ∙ ap (λ (ls : List (List ℕ)). front ++ ls) (sym is)) (known some early) in
      omega (arith, own.short owned front found, (spelled_once (own.spelled ok owned B there) spelled).1)

  owned_one : AreOwned (written_at at owner end ∷ []) stored p.suffixes
  owned_one = record {
    short = (All-nil (PointsToEarlier (written_at at owner end)), tt);
    after_known = λ o known. All-cons (PointsToEarlier o) (written_at at owner end) [] (one_short o known)
        (All-nil (PointsToEarlier o));
    known = All-cons (IsKnown p.suffixes) (written_at at owner end) [] own.stores (All-nil (IsKnown p.suffixes));
  }

module _ {A : Type 0} {Word : ℕ → A → ℕ → Type 0} (owner : A → List (List ℕ))
    (end : (i : ℕ) (x : A) (e : ℕ) → Word i x e → ℕ) where
  -- words after words, which have the owners of both
  pub together : {i j e : ℕ} {xs ys : List A} (v : BackToBack Word i xs j) (w : BackToBack Word j ys e)
      → (u : BackToBack Word i (xs ++ ys) e) × (owners_by owner end u ≡ owners_by owner end v ++ owners_by owner end w)
  unfolding owners_by
  together none w = (w, refl)
  together (more {i = i} {j = j} {x = x} word rest) w =
      let (u, is) = together rest w in
      (more word u, ap (λ os. record { start = i; labels = owner x; end = end i x j word } ∷ os) is)

-- Items that are written in turn from a place on, as they are read in a buffer where that stands.
module _ {E : Type 0} (f : E → Writing) (kept : E → Type 0) (word : E → List ℕ → ℕ → ℕ → Type 0) (plain : E → ℕ)
    (owner : E → List (List ℕ))
    (says : (x : E) → Says (f x) (kept x) (word x) (plain x) (owner x)) (B : List ℕ) (Word : ℕ → E → ℕ → Type 0)
    (end : (i : ℕ) (x : E) (e : ℕ) → Word i x e → ℕ) where
  pub record Section (xs : List E) (at e : ℕ) (ts us : List Stored) : Type 0 where
    pub words : BackToBack Word at xs e
    pub owned : AreOwned (owners_by owner end words) ts us
    pub grows : Grows ts us
    pub table : All (IsSpelled B e) us

  section_none : (at e : ℕ) (ts : List Stored) → at ≡ e → All (IsSpelled B at) ts → Section [] at e ts ts
  unfolding owners_by
  section_none at e ts same table = subst (λ n. Section [] at n ts ts) same
      (record { words = none; owned = owned_none ts; grows = grows_none ts; table = table })

  module _ (P : E → Type 0) (read : (x : E) → P x → (i e : ℕ) → word x B i e → Word i x e)
      (ends : (i : ℕ) (x : E) (e : ℕ) (w : Word i x e) → Spelled B (owner x) i i (end i x e w)) where
    pub section : (xs : List E) → All kept xs → All P xs → (at e : ℕ) (ts : List Stored)
        → e ≡ at + length (in_turn f xs at ts).bytes → IsThere (in_turn f xs at ts) B at ts
        → Section xs at e ts (in_turn f xs at ts).suffixes
    unfolding owners_by
    section [] all fits at e ts is there = section_none at e ts (omega (arith, is)) there.table
    section (x ∷ xs) all fits at e ts is there =
        let p = f x at ts in
        let mid = at + length p.bytes in
        let q = in_turn f xs mid p.suffixes in
        let sum = length-append p.bytes q.bytes in
        let said = (says x).each at ts in
        let ok = all 0 x (omega arith) in
        let first : IsThere p B at ts = record {
          table = there.table;
          bytes = first_stands p.bytes q.bytes B at there.bytes;
          small = omega (arith, there.small, sum);
        } in
        let stood = said.stands ok B mid refl first in
        let second : IsThere q B mid p.suffixes = record {
          table = stood.1;
          bytes = last_stands p.bytes q.bytes B at there.bytes;
          small = omega (arith, there.small, sum);
        } in
        let w = read x (fits 0 x (omega arith)) at mid stood.0 in
        let one = owned_one (owner x) (end at x mid w) ok said.owned first (ends at x mid w) in
        let grown : Grows ts p.suffixes = record { added = said.added; is = said.is } in
        let rest = section xs (All-tail kept x xs all) (All-tail P x xs fits) mid e p.suffixes (omega (arith, is, sum))
        second in
        record {
          words = more w rest.words;
          owned = owned_then grown rest.grows one rest.owned;
          grows = grows_then grown rest.grows;
          table = rest.table;
        }
