-- What is known of what is written of a name.
use Rattle.base.specs.declared.limits.TheConstants.{POINTER_LIMIT}
use Rattle.std.proofs.Common.{◌≡◌, ◌≢◌, ℕ, suc, ◌+◌, ◌<◌, ◌≤◌, inl, inr, List, [], ◌∷◌, ◌++◌, length, refl, ap, sym}
use Rattle.std.proofs.Common.{◌∙◌, subst, append_assoc, arith, length-append, Bool, true, false, cond}
use Rattle.std.specs.Prelude.{Option, Some, None, All, Any, MatchOption, nat_le, if◌then◌else◌}
use Rattle.std.specs.Int.{w16, to_be_bytes}
use Rattle.std.proofs.Math.Path.{transport}
use Rattle.std.proofs.lemmas.Bool.{cases_Bool, cases_lt, le-leb, lt-leb}
use Rattle.std.proofs.lemmas.List.{append-nil}
use Rattle.std.proofs.lemmas.List.Elements.{All-nil, All-cons, All-tail, All-append}
use Rattle.base.specs.names.Labels.{size_of, plain_len, wire_of, AreLabels, AreNameLabels}
use Rattle.base.specs.writing.Laws.{IsSpelled}
use Rattle.base.specs.names.NameOrder.{same_labels}
use Rattle.base.specs.names.NameOrderLaws.{labels_decide}
use Rattle.base.specs.reading.PointerLemmas.{length-wire_of, root_stands, label_stands, labels_stand, pointer_stands}
use Rattle.base.specs.writing.Says.{Says}
use Rattle.base.specs.writing.SaysParts.{Says-just, any_append, any_after, last_stands, later_table}
use Rattle.base.specs.reading.Spelling.{Spelled}
use Rattle.base.specs.writing.State.{Stored}
use Rattle.base.specs.WordLemmas.{first_stands}
use Rattle.base.specs.Words.{Stands, NameAt}
use Rattle.base.specs.writing.Written.{Piece, both, found_in, pointer_or, label_of, name, plain_name}

-- the suffix that a label begins, unless it is too far for a pointer
abbrev pub added_at : List ℕ → List (List ℕ) → ℕ → List Stored
added_at x xs at =
    if nat_le POINTER_LIMIT at then [] else record { labels = x ∷ xs; offset = at } ∷ []

-- is what storing it adds
pub near : (x : List ℕ) (xs : List (List ℕ)) (at : ℕ) (stored : List Stored)
    → (label_of x xs at stored).suffixes ≡ stored ++ added_at x xs at
near x xs at stored = elim (cases_lt at POINTER_LIMIT) [
  | inl early ↦ rw (lt-leb POINTER_LIMIT at early)
  | inr far ↦ rw (le-leb POINTER_LIMIT at far, append-nil)
]

-- what holds of the suffix, if it is near, holds of all that is added
pub near_all : (P : Stored → Type 0) (x : List ℕ) (xs : List (List ℕ)) (at : ℕ)
    → (at < POINTER_LIMIT → P (record { labels = x ∷ xs; offset = at })) → All P (added_at x xs at)
near_all P x xs at holds = elim (cases_lt at POINTER_LIMIT) [
  | inl early ↦ rw (lt-leb POINTER_LIMIT at early) (All-cons P _ [] (holds early) (All-nil P))
  | inr far ↦ rw (le-leb POINTER_LIMIT at far) (All-nil P)
]

-- and if it is near, it is added
near_any : (P : Stored → Type 0) (x : List ℕ) (xs : List (List ℕ)) (at : ℕ) (more : List Stored)
    → at < POINTER_LIMIT → P (record { labels = x ∷ xs; offset = at })
    → Any P (added_at x xs at ++ more)
near_any P x xs at more early holds =
    rw (lt-leb POINTER_LIMIT at early) (0, _, omega arith, refl, holds)

-- a suffix that is found is stored, and one that isn't found is not
abbrev pub IsFoundIn : List Stored → List (List ℕ) → Option ℕ → Type 0
IsFoundIn ts labels found = MatchOption found (All (λ t. t.labels ≢ labels) ts)
    (λ o. Any (λ t. (t.labels ≡ labels) × (t.offset ≡ o)) ts)

is_found : (ts : List Stored) (labels : List (List ℕ)) → IsFoundIn ts labels (found_in ts labels)
is_found [] labels = All-nil (λ (t : Stored). t.labels ≢ labels)
is_found (t ∷ ts) labels =
    go (same_labels t.labels labels) refl (found_in ts labels) (is_found ts labels) where
      go : (b : Bool) → same_labels t.labels labels ≡ b → (later : Option ℕ)
          → IsFoundIn ts labels later → IsFoundIn (t ∷ ts) labels (cond b (Some t.offset) later)
      go true same later is = (0, t, omega arith, refl, ((labels_decide t.labels labels).0 same, refl))
      go false differ None none = All-cons (λ (u : Stored). u.labels ≢ labels) t ts
          (λ equal. let yes = (labels_decide t.labels labels).1 equal in absurd cc) none
      go false differ (Some o) (k, u, inside, at, holds) =
          (suc k, u, omega (arith, inside), at, holds)

-- so it is of what the look-up is known to answer
pub found_as : (ts : List Stored) (labels : List (List ℕ)) {r : Option ℕ} → found_in ts labels ≡ r
    → IsFoundIn ts labels r
found_as ts labels is = subst (IsFoundIn ts labels) is (is_found ts labels)

-- suffixes of other labels before the others change nothing
pub found_past : (ts own : List Stored) (labels : List (List ℕ)) → All (λ t. t.labels ≢ labels) ts
    → found_in (ts ++ own) labels ≡ found_in own labels
found_past [] own labels none = refl
found_past (t ∷ ts) own labels none = elim (cases_Bool (same_labels t.labels labels)) [
  | inl same ↦ absurd (none 0 t (omega arith) ((labels_decide t.labels labels).0 same))
  | inr differ ↦ rw differ (found_past ts own labels (All-tail (λ u. u.labels ≢ labels) t ts none))
]

-- where all have other labels, none is found
pub none_found : (ts : List Stored) (labels : List (List ℕ)) → All (λ t. t.labels ≢ labels) ts
    → found_in ts labels ≡ None
none_found ts labels none = rw append-nil at (found_past ts [] labels none)

-- nor do such after them
pub found_among : (ts own : List Stored) (labels : List (List ℕ))
    → All (λ t. t.labels ≢ labels) own → found_in (ts ++ own) labels ≡ found_in ts labels
found_among [] own labels none = none_found own labels none
found_among (t ∷ ts) own labels none =
    ap (λ (r : Option ℕ). cond (same_labels t.labels labels) (Some t.offset) r)
    (found_among ts own labels none)

-- what writing a name puts: its bytes, where they end, and the suffixes that it adds
pub record Put : Type 0 where
  pub bytes : List ℕ
  pub end : ℕ
  pub added : List Stored

-- How a name is written where these suffixes were stored before it. Those that it adds itself are longer than the
-- labels after them, and so no pointer of it leads there.
pub data Wrote (stored : List Stored) : List (List ℕ) → ℕ → Put → Type 0 where
  root : {at : ℕ} → Wrote stored [] at (record { bytes = 0 ∷ []; end = at + 1; added = [] })
  points : {x : List ℕ} {xs : List (List ℕ)} {at o : ℕ} → found_in stored (x ∷ xs) ≡ Some o
      → Wrote stored (x ∷ xs) at
      (record { bytes = to_be_bytes w16 (49152 + o); end = at + 2; added = [] })
  begins : {x : List ℕ} {xs : List (List ℕ)} {at : ℕ} {w : Put} → found_in stored (x ∷ xs) ≡ None
      → Wrote stored xs (at + length (length x ∷ x)) w
      → Wrote stored (x ∷ xs) at (record {
        bytes = (length x ∷ x) ++ w.bytes;
        end = w.end;
        added = added_at x xs at ++ w.added;
      })

-- what is written of a name is written so
pub record IsWrote (old : List Stored) (labels : List (List ℕ)) (at : ℕ) (stored : List Stored)
    (p : Piece) : Type 0 where
  pub end : ℕ
  pub added : List Stored
  pub is : p.suffixes ≡ stored ++ added
  pub wrote : Wrote old labels at (record { bytes = p.bytes; end = end; added = added })

wrote_by : {x : List ℕ} {xs : List (List ℕ)} {at : ℕ} {old stored : List Stored} (r : Option ℕ)
    → found_in old (x ∷ xs) ≡ r
    → IsWrote old xs (at + length (length x ∷ x)) (label_of x xs at stored).suffixes
    (name xs (at + length (length x ∷ x)) (label_of x xs at stored).suffixes)
    → IsWrote old (x ∷ xs) at stored (pointer_or (both (label_of x xs) (name xs)) r at stored)
wrote_by {at = at} {stored = stored} (Some o) is rest =
    record { end = at + 2; added = []; is = sym (append-nil stored); wrote = points is }
wrote_by {x} {xs} {at} {old} {stored} None is rest = record {
  end = rest.end;
  added = added_at x xs at ++ rest.added;
  is = rw (rest.is, near x xs at stored, append_assoc);
  wrote = begins is rest.wrote;
}

wrote_after : (labels : List (List ℕ)) (at : ℕ) (old own stored : List Stored) → stored ≡ old ++ own
    → All (λ t. size_of labels < size_of t.labels) own
    → IsWrote old labels at stored (name labels at stored)
wrote_after [] at old own stored is longer =
    record { end = at + 1; added = []; is = sym (append-nil stored); wrote = root }
wrote_after (x ∷ xs) at old own stored is longer =
    let added = added_at x xs at in
    let same : found_in stored (x ∷ xs) ≡ found_in old (x ∷ xs) =
    rw is (found_among old own (x ∷ xs)
    (λ k t inside same. omega (arith, longer k t inside, ap size_of same))) in
    let all : All (λ t. size_of xs < size_of t.labels) (own ++ added) =
    All-append (λ (t : Stored). size_of xs < size_of t.labels) own added
    (λ k t inside. omega (arith, longer k t inside))
    (near_all (λ (t : Stored). size_of xs < size_of t.labels) x xs at (λ early. omega arith)) in
    rw same (wrote_by (found_in old (x ∷ xs)) refl
    (wrote_after xs (at + length (length x ∷ x)) old (own ++ added) (label_of x xs at stored).suffixes
    (rw (near x xs at stored, is, append_assoc)) all))

-- every name is written so, whatever was stored before it
pub name_wrote : (labels : List (List ℕ)) (at : ℕ) (stored : List Stored)
    → IsWrote stored labels at stored (name labels at stored)
name_wrote labels at stored = wrote_after labels at stored [] stored (sym (append-nil stored))
    (All-nil (λ (t : Stored). size_of labels < size_of t.labels))

module _ {stored : List Stored} where
  -- where a name that is written ends
  pub ends_at : {labels : List (List ℕ)} {at : ℕ} {w : Put} → Wrote stored labels at w
      → w.end ≡ at + length w.bytes
  ends_at root = omega arith
  ends_at (points is) = omega arith
  ends_at (begins {x = x} {w = w} none rest) =
      omega (arith, ends_at rest, length-append (length x ∷ x) w.bytes)

  -- it has no more bytes than without pointers
  at_most : {labels : List (List ℕ)} {at : ℕ} {w : Put} → Wrote stored labels at w
      → w.end ≤ at + plain_len labels
  at_most root = omega arith
  at_most (points is) = omega arith
  at_most (begins none rest) = omega (arith, at_most rest)

  -- and where it ends in a stored suffix, no more than what is before that, and a pointer
  short : {labels : List (List ℕ)} {at : ℕ} {w : Put} → Wrote stored labels at w
      → (front : List (List ℕ)) → Any (λ t. labels ≡ front ++ t.labels) stored
      → w.end ≤ at + (size_of front + 2)
  short root front any = omega arith
  short (points is) front any = omega arith
  short (begins {x} {xs} none rest) [] (k, t, inside, at, is) =
      absurd (found_as stored (x ∷ xs) none k t inside (ap (λ (u : Stored). u.labels) at ∙ sym is))
  short (begins {x} {xs} none rest) (y ∷ front) (k, t, inside, at, is) =
      let first : x ≡ y = cc in
      let tail : xs ≡ front ++ t.labels = cc in
      omega (arith, short rest front (k, t, inside, at, tail), ap length first)

  -- the suffixes that it adds begin where it does, or later
  offsets : {labels : List (List ℕ)} {at : ℕ} {w : Put} → Wrote stored labels at w
      → All (λ t. at ≤ t.offset) w.added
  offsets (root {at}) = All-nil (λ (t : Stored). at ≤ t.offset)
  offsets (points {at = at} is) = All-nil (λ (t : Stored). at ≤ t.offset)
  offsets (begins {x} {xs} {at} {w} none rest) =
      All-append (λ (t : Stored). at ≤ t.offset) (added_at x xs at) w.added
      (near_all (λ (t : Stored). at ≤ t.offset) x xs at (λ early. omega arith))
      (λ k t inside. omega (arith, offsets rest k t inside))

  -- its own labels are stored, if it begins early
  stores : {labels : List (List ℕ)} {at : ℕ} {w : Put} → Wrote stored labels at w → labels ≢ []
      → at < POINTER_LIMIT → Any (λ t. t.labels ≡ labels) (stored ++ w.added)
  stores root some early = absurd (some refl)
  stores (points {x} {xs} is) some early =
      let (k, t, inside, at, holds) = found_as stored (x ∷ xs) is in
      any_append (λ t. t.labels ≡ x ∷ xs) stored [] (stored ++ []) refl (k, t, inside, at, holds.0)
  stores (begins {x} {xs} {at} {w} none rest) some early =
      any_after (λ t. t.labels ≡ x ∷ xs) stored (added_at x xs at ++ w.added)
      (near_any (λ t. t.labels ≡ x ∷ xs) x xs at w.added early refl)

  -- and so is each suffix that is written by labels, and begins early, where it begins
  pub stores_each : {labels : List (List ℕ)} {at : ℕ} {w : Put} → Wrote stored labels at w
      → (front back : List (List ℕ)) (p : ℕ) → labels ≡ front ++ back → p ≡ at + size_of front
      → p + 2 < w.end → p < POINTER_LIMIT
      → Any (λ t. (t.labels ≡ back) × (t.offset ≡ p)) w.added
  stores_each root front back p parts place more early = absurd (omega (arith, place, more))
  stores_each (points is) front back p parts place more early = absurd (omega (arith, place, more))
  stores_each (begins {x} {xs} {at} {w} none rest) [] back p parts place more early =
      near_any (λ t. (t.labels ≡ back) × (t.offset ≡ p)) x xs at w.added
      (omega (arith, place, early)) (parts, omega (arith, place))
  stores_each (begins {x} {xs} {at} {w} none rest) (y ∷ front) back p parts place more early =
      let first : x ≡ y = cc in
      let tail : xs ≡ front ++ back = cc in
      any_after (λ t. (t.labels ≡ back) × (t.offset ≡ p)) (added_at x xs at) w.added
      (stores_each rest front back p tail (omega (arith, place, ap length first)) more early)

  module _ {B : List ℕ} where
    -- where it stands, the name is spelled, in a piece that begins there or before
    spelled_there : {labels : List (List ℕ)} {s at : ℕ} {w : Put} → Wrote stored labels at w
        → AreLabels labels → All (IsSpelled B s) stored → Stands w.bytes B at
        → Spelled B labels s at w.end
    spelled_there {s = s} (root {at}) are table stands = root_stands B s at (at + 1) stands refl
    spelled_there {s = s} (points {x} {xs} is) are table stands =
        let (k, t, inside, at, same) = found_as stored (x ∷ xs) is in
        let old : IsSpelled B s t = subst (IsSpelled B s) at (table k t inside) in
        pointer_stands (omega (arith, same.1, old.below)) (omega (arith, same.1, old.fits)) stands
        (transport (λ i. Spelled B (same.0 i) (same.1 i) (same.1 i) old.end) old.spelled) refl
    spelled_there {s = s} (begins {x} {xs} {at} {w} none rest) are table stands =
        label_stands B x xs s at w.end are.0.some are.0.short
        (first_stands (length x ∷ x) w.bytes B at stands)
        (spelled_there rest are.1 table (last_stands (length x ∷ x) w.bytes B at stands))

    -- and so are the suffixes that it adds
    added_spelled : {labels : List (List ℕ)} {at : ℕ} {w : Put} → Wrote stored labels at w
        → AreLabels labels → All (IsSpelled B at) stored → Stands w.bytes B at
        → All (IsSpelled B w.end) w.added
    added_spelled (root {at}) are table stands = All-nil (IsSpelled B (at + 1))
    added_spelled (points {at = at} is) are table stands = All-nil (IsSpelled B (at + 2))
    added_spelled (begins {x} {xs} {at} {w} none rest) are table stands =
        All-append (IsSpelled B w.end) (added_at x xs at) w.added
        (near_all (IsSpelled B w.end) x xs at (λ early. record {
          below = omega (arith, ends_at rest);
          fits = early;
          end = w.end;
          spelled = spelled_there (begins none rest) are table stands;
        }))
        (added_spelled rest are.1
        (later_table B at (at + length (length x ∷ x)) stored (omega arith) table)
        (last_stands (length x ∷ x) w.bytes B at stands))

-- what is written of a name is its word
pub Says-name : (labels : List (List ℕ))
    → Says (name labels) (AreNameLabels labels) (NameAt labels) (plain_len labels) labels
Says-name labels = record {
  each = λ at stored.
      let n = name_wrote labels at stored in
      let end = ends_at n.wrote in
      record {
        stands = λ ok B e is h. rw (is, ← end, n.is) (
          (spelled_there n.wrote ok.0 h.table h.bytes, ok.1),
          All-append (IsSpelled B n.end) stored n.added
              (later_table B at n.end stored (omega (arith, end)) h.table)
              (added_spelled n.wrote ok.0 h.table h.bytes),
        );
        added = n.added;
        is = n.is;
        offsets = offsets n.wrote;
        owned = record {
          end = n.end;
          spelled = λ ok some B h. spelled_there n.wrote ok.0 h.table h.bytes;
          short = λ some. short n.wrote;
          stores = λ some early. rw n.is (stores n.wrote some early);
        };
      };
  at_most = λ at stored.
      let n = name_wrote labels at stored in
      omega (arith, ends_at n.wrote, at_most n.wrote);
}

-- and so it is without compression
pub Says-plain_name : (labels : List (List ℕ))
    → Says (plain_name labels) (AreNameLabels labels) (NameAt labels) (plain_len labels) []
Says-plain_name labels =
    let len : length (wire_of labels ++ 0 ∷ []) ≡ plain_len labels =
    length-append (wire_of labels) (0 ∷ []) ∙ ap (λ (n : ℕ). n + 1) (length-wire_of labels) in
    Says-just (AreNameLabels labels) (NameAt labels) (plain_len labels) (wire_of labels ++ 0 ∷ [])
    (omega (arith, len))
    (λ ok B at small stands. (rw len (labels_stand B labels at at ok.0 stands), ok.1))
