-- What fits: all where there is room for all, and no fewer under a larger limit.
use Rattle.std.proofs.Common.{◌≡◌, ℕ, ◌+◌, ◌<◌, ◌≤◌, inl, inr, List, [], ◌∷◌, ◌++◌, length, refl, ap, sym, ◌∙◌, subst}
use Rattle.std.proofs.Common.{arith, length-append}
use Rattle.std.proofs.lemmas.Bool.{cases_lt, le-leb, lt-leb}
use Rattle.base.specs.writing.State.{State, Stored}
use Rattle.base.specs.writing.Written.{Writing, piece_at, after, in_turn, that_fit, fitting, FirstPasses, FirstPassesAt}
use Rattle.base.proofs.writing.WrittenLemmas.{after-both, after-none}

module _ {A : Type 0} (f : A → Writing) where
  pub first_fits : (limit : ℕ) (x : A) (xs : List A) (at : ℕ) (stored : List Stored)
      → at + length (f x at stored).bytes ≤ limit
      → that_fit f limit (x ∷ xs) at stored ≡ x ∷ that_fit f limit xs (at + length (f x at stored).bytes)
      (f x at stored).suffixes
  first_fits limit x xs at stored fits = rw (le-leb (at + length (f x at stored).bytes) limit fits)

  pub none_fits : (limit : ℕ) (x : A) (xs : List A) (at : ℕ) (stored : List Stored)
      → limit < at + length (f x at stored).bytes → that_fit f limit (x ∷ xs) at stored ≡ []
  none_fits limit x xs at stored full = rw (lt-leb (at + length (f x at stored).bytes) limit full)

  pub all_fit : (limit : ℕ) (xs : List A) (at : ℕ) (stored : List Stored)
      → at + length (in_turn f xs at stored).bytes ≤ limit → that_fit f limit xs at stored ≡ xs
  all_fit limit [] at stored room = refl
  all_fit limit (x ∷ xs) at stored room =
      let place = at + length (f x at stored).bytes in
      let sum = length-append (f x at stored).bytes (in_turn f xs place (f x at stored).suffixes).bytes in
      first_fits limit x xs at stored (omega (arith, room, sum))
      ∙ ap (λ (ys : List A). x ∷ ys) (all_fit limit xs place (f x at stored).suffixes (omega (arith, room, sum)))

  pub no_fewer_fit : (limit more : ℕ) (xs : List A) (at : ℕ) (stored : List Stored) → limit ≤ more
      → (others : List A) × (that_fit f more xs at stored ≡ that_fit f limit xs at stored ++ others)
  no_fewer_fit limit more [] at stored larger = ([], refl)
  no_fewer_fit limit more (x ∷ xs) at stored larger = elim (cases_lt limit (at + length (f x at stored).bytes)) [
    | inl full ↦ rw (none_fits limit x xs at stored full) (that_fit f more (x ∷ xs) at stored, refl)
    | inr fits ↦
        let place = at + length (f x at stored).bytes in
        let (others, is) = no_fewer_fit limit more xs place (f x at stored).suffixes larger in
        rw (first_fits limit x xs at stored fits, first_fits more x xs at stored (omega (arith, fits, larger)))
        (others, ap (λ (ys : List A). x ∷ ys) is)
  ]

module _ {A : Type 0} (f : A → Writing) (limit : ℕ) where
  -- those that were written are those that fit, if the next one would pass the limit
  pub Fits-front : (kept lost : List A) (a b : State) → b ≡ after (in_turn f kept) a → length b.bytes ≤ limit
      → FirstPasses f limit b lost
      → that_fit f limit (kept ++ lost) (length a.bytes) a.suffixes ≡ kept
  Fits-front [] [] a b is within full = refl
  Fits-front [] (x ∷ lost) a b is within full =
      none_fits f limit x lost (length a.bytes) a.suffixes (rw (is ∙ after-none a) at full)
  Fits-front (y ∷ kept) lost a b is within full =
      let m = after (f y) a in
      let rest : b ≡ after (in_turn f kept) m = is ∙ after-both (f y) (in_turn f kept) a in
      let place : length m.bytes ≡ length a.bytes + length (piece_at (f y) a).bytes =
      length-append a.bytes (piece_at (f y) a).bytes in
      let sum = ap (λ (u : State). length u.bytes) rest ∙ length-append m.bytes (piece_at (in_turn f kept) m).bytes in
      let fits : length a.bytes + length (piece_at (f y) a).bytes ≤ limit = omega (arith, within, place, sum) in
      first_fits f limit y (kept ++ lost) (length a.bytes) a.suffixes fits
      ∙ ap (λ (n : ℕ). y ∷ that_fit f limit (kept ++ lost) n (piece_at (f y) a).suffixes) (sym place)
      ∙ ap (λ (xs : List A). y ∷ xs) (Fits-front kept lost m b rest within full)

  -- and whatever the values and the limit are, those that fit are a front of them, and the first of the others would
  -- pass the limit
  pub Fits-cut_at : (xs : List A) (at : ℕ) (stored : List Stored) → let kept =
      that_fit f limit xs at stored in let piece = in_turn f kept at stored in
      (lost : List A) × (xs ≡ kept ++ lost) × FirstPassesAt f limit (at + length piece.bytes) piece.suffixes lost
  Fits-cut_at [] at stored = ([], refl, tt)
  Fits-cut_at (x ∷ xs) at stored =
      let first = f x at stored in
      let place = at + length first.bytes in
      elim (cases_lt limit place) [
        | inl full ↦
            let here : at ≡ at + 0 = omega arith in
            rw (none_fits f limit x xs at stored full)
            (x ∷ xs, refl, subst (λ (k : ℕ). limit < k + length (f x k stored).bytes) here full)
        | inr fits ↦
            let (lost, whole, passes) = Fits-cut_at xs place first.suffixes in
            let piece = in_turn f (that_fit f limit xs place first.suffixes) place first.suffixes in
            let end : place + length piece.bytes ≡ at + length (first.bytes ++ piece.bytes) =
            omega (arith, length-append first.bytes piece.bytes) in
            rw (first_fits f limit x xs at stored fits) (
              lost,
              ap (λ (ys : List A). x ∷ ys) whole,
              subst (λ (k : ℕ). FirstPassesAt f limit k piece.suffixes lost) end passes,
            )
      ]

  pub Fits-cut : (xs : List A) (a : State) → (lost : List A)
      × (xs ≡ that_fit f limit xs (length a.bytes) a.suffixes ++ lost)
      × FirstPasses f limit (after (fitting f limit xs) a) lost
  Fits-cut xs a =
      let (lost, whole, passes) = Fits-cut_at xs (length a.bytes) a.suffixes in
      (lost, whole, rw length-append passes)
