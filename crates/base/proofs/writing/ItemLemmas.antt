-- Items that were written one after another, and going back after the last that fits.
use Rattle.std.proofs.Common.{◌≡◌, ℕ, Option, Some, List, [], ◌∷◌, ◌++◌, length, take, refl, ◌<◌, ◌≤◌, ◌^◌, ap, ◌∙◌}
use Rattle.std.proofs.Common.{arith, length-append}
use Rattle.std.specs.Prelude.{All, max}
use Rattle.std.proofs.lemmas.List.Elements.{All-tail}
use Rattle.std.proofs.Math.Seq.{take-append_seam}
use Rattle.std.specs.Iterator.{Yields, YieldsThen}
use Rattle.base.specs.writing.State.{State, cut}
use Rattle.base.specs.writing.Laws.{IsValid, Holds, Keeps}
use Rattle.base.specs.writing.Items.{EachWritten}
use Rattle.base.specs.writing.Says.{Says}
use Rattle.base.specs.writing.Written.{Writing, after, in_turn, piece_at}
use Rattle.base.proofs.writing.SaysLemmas.{Says-keeps, Says-writes}
use Rattle.base.proofs.writing.WrittenLemmas.{after-both, after-none}
use Rattle.base.proofs.writing.LawLemmas.{Keeps-same, Keeps-then, Holds-first, Holds-second}

-- cut back to what stood before
pub cut-Keeps : (a b : State) → Keeps a b → cut (length a.bytes) (length a.suffixes) b ≡ a
cut-Keeps a b k =
    let bytes : take (length a.bytes) b.bytes ≡ a.bytes = rw (k.bytes, take-append_seam) in
    let suffixes : take (length a.suffixes) b.suffixes ≡ a.suffixes = rw (k.suffixes, take-append_seam) in
    λ i. record { buffer = k.buffer i; bytes = bytes i; limit = k.limit i; suffixes = suffixes i }

-- the last item given is one item more
pub Yields-push : {S A : Type 0} (steps : S → Option A → S → Type 0) (xs : List A) (x : A) (s t : S)
    → YieldsThen steps s xs (Some x) t → Yields steps s (xs ++ x ∷ []) t
Yields-push steps [] x s t (u, same, step) = (t, rw same step, refl)
Yields-push steps (y ∷ ys) x s t (u, (v, first, others), step) =
    (v, first, Yields-push steps ys x v t (u, others, step))

module _ {E : Type 0} (word : E → List ℕ → ℕ → ℕ → Type 0) (plain : E → ℕ) (owner : E → List (List ℕ)) where
  Each-keeps : (xs : List E) (a b : State) → EachWritten word plain owner xs a b → Keeps a b
  Each-keeps [] a b same = Keeps-same a b same
  Each-keeps (x ∷ xs) a c (b, keeps, writes, others) = Keeps-then keeps (Each-keeps xs b c others)

  -- all suffixes stored until then are spelled in every buffer that holds what was written
  Each-valid : (xs : List E) (a b : State) → EachWritten word plain owner xs a b → (B : List ℕ) → Holds a b B
      → IsValid b B
  Each-valid [] a b same B h = rw same h.table
  Each-valid (x ∷ xs) a c (b, keeps, writes, others) B h =
      let later = Each-keeps xs b c others in
      let first = writes.valid B (Holds-first a b c keeps later B h) in
      Each-valid xs b c others B (Holds-second a b c keeps later B first h)

-- What is written in turn within the limit is written each as its word.
module _ {E : Type 0} (f : E → Writing) (fits : E → Type 0) (word : E → List ℕ → ℕ → ℕ → Type 0) (plain : E → ℕ)
    (owner : E → List (List ℕ)) (says : (x : E) → Says (f x) (fits x) (word x) (plain x) (owner x)) where
  pub Turn-each : (xs : List E) → All fits xs → (a b : State) → b ≡ after (in_turn f xs) a
      → length b.bytes ≤ max (length a.bytes) a.limit → a.limit < 2 ^ 16 → EachWritten word plain owner xs a b
  Turn-each [] all a b is within small = is ∙ after-none a
  Turn-each (x ∷ xs) all a b is within small =
      let m = after (f x) a in
      let rest : b ≡ after (in_turn f xs) m = is ∙ after-both (f x) (in_turn f xs) a in
      let longer : length m.bytes ≤ length b.bytes = omega (
        arith,
        ap (λ (u : State). length u.bytes) rest,
        length-append m.bytes (piece_at (in_turn f xs) m).bytes,
      ) in
      let more : length a.bytes ≤ length m.bytes = omega (arith, length-append a.bytes (piece_at (f x) a).bytes) in
      let most : length m.bytes ≤ max (length a.bytes) a.limit = omega (arith, longer, within) in (
        m,
        Says-keeps (f x) a m (says x) refl most,
        Says-writes (f x) a m (says x) (all 0 x (omega arith)) refl most small,
        Turn-each xs (All-tail fits x xs all) m b rest (omega (arith, within, more)) small,
      )

  -- and every suffix stored until then is spelled
  pub Turn-valid : (xs : List E) → All fits xs → (a b : State) → b ≡ after (in_turn f xs) a
      → length b.bytes ≤ max (length a.bytes) a.limit → a.limit < 2 ^ 16
      → (B : List ℕ) → Holds a b B → IsValid b B
  Turn-valid xs all a b is within small = Each-valid word plain owner xs a b (Turn-each xs all a b is within small)
