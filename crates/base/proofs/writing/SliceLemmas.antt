-- The elements of a slice that were written one after another.
use Rattle.std.proofs.Common.{◌≡◌, ℕ, ◌+◌, ◌<◌, ◌≤◌, List, [], ◌∷◌, ◌++◌, length, map, ap, sym, ◌∙◌, subst, arith, Ok}
use Rattle.std.proofs.Common.{Err, Bor, Iter}
use Rattle.std.specs.Prelude.{All, max}
use Rattle.std.proofs.lemmas.List.Elements.{All-cons, All-nil, All-tail}
use Rattle.std.proofs.lemmas.List.{append-nil, length-map, nil_from_length}
use Rattle.std.proofs.iter.Yields.{fronts}
use Rattle.std.specs.Iterator.{Yields}
use Rattle.base.specs.declared.error.proto_error.ProtoError.TheVariants as refusals
use Rattle.base.specs.writing.State.{State}
use Rattle.base.specs.writing.Items.{EmitsAll}
use Rattle.base.specs.writing.Written.{Writing, piece_at, after, in_turn}
use Rattle.base.proofs.writing.WrittenLemmas.{in_turn-map}

-- the items that the iterator gave are the first elements of its slice
pub Yields-slice : {E : Type 0} (s t : Iter E) (xs : List (Bor E)) → Yields fronts s xs t
    → s.rest.now ≡ map (λ x. x.now) xs ++ t.rest.now
Yields-slice s t [] same = ap (λ it. it.rest.now) same
Yields-slice s t (x ∷ xs) (u, step, others) = step ∙ ap (λ rest. x.now ∷ rest) (Yields-slice u t xs others)

-- what holds of each borrowed item holds of each item
pub all_now : {E : Type 0} (P : E → Type 0) (xs : List (Bor E)) → All (λ (x : Bor E). P x.now) xs
    → All P (map (λ x. x.now) xs)
all_now P [] all = All-nil P
all_now P (x ∷ xs) all = All-cons P x.now (map (λ y. y.now) xs) (all 0 x (omega arith))
    (all_now P xs (All-tail (λ (y : Bor _). P y.now) x xs all))

module _ {E : Type 0} (fits : E → Type 0) (written : E → Writing) (s t : Iter E) (a b : State) (n : ℕ) where
  -- all elements were written
  pub Emits-slice : EmitsAll (λ (x : Bor E). fits x.now) (λ x. written x.now) fronts s t a b (Ok n)
      → All fits s.rest.now × (n ≡ length s.rest.now) × (b ≡ after (in_turn written s.rest.now) a)
      × (length b.bytes ≤ max (length a.bytes) a.limit)
  Emits-slice (xs, (u, yields, stop), kept, counted, exact, within) =
      let all : s.rest.now ≡ map (λ x. x.now) xs =
      Yields-slice s u xs yields ∙ ap (λ rest. map (λ x. x.now) xs ++ rest) (nil_from_length u.rest.now stop.0)
      ∙ append-nil (map (λ x. x.now) xs) in (
        subst (All fits) (sym all) (all_now fits xs kept),
        counted ∙ sym (length-map xs (λ x. x.now)) ∙ ap length (sym all),
        exact ∙ ap (λ f. after f a) (in_turn-map (λ x. x.now) written xs ∙ ap (in_turn written) (sym all)),
        within,
      )

  -- the elements before one that didn't fit were written
  pub Emits-front : EmitsAll (λ (x : Bor E). fits x.now) (λ x. written x.now) fronts s t a b
      (Err (refusals.NotAllRecordsWritten n))
      → (xs : List E) × (x : E) × (rest : List E) × (s.rest.now ≡ xs ++ x ∷ rest) × All fits xs × (n ≡ length xs)
      × (b ≡ after (in_turn written xs) a) × (length b.bytes ≤ max (length a.bytes) a.limit)
      × (a.limit < length b.bytes + length (piece_at (written x) b).bytes)
  Emits-front (xs, x, (u, yields, step), kept, counted, exact, within, passes) = (
    map (λ x. x.now) xs,
    x.now,
    t.rest.now,
    Yields-slice s u xs yields
        ∙ ap (λ rest. map (λ x. x.now) xs ++ rest) step,
    all_now fits xs kept,
    counted ∙ sym (length-map xs (λ x. x.now)),
    exact ∙ ap (λ f. after f a) (in_turn-map (λ x. x.now) written xs),
    within,
    passes,
  )
