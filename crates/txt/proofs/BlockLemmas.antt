-- Sets that stand in blocks: the last one, and what is left when it goes.
use Rattle.std.proofs.Common.{◌≡◌, ◌≢◌, ◌∙◌, ◌-◌, ◌++◌, ◌∷◌, ◌+◌, ℕ, zero, suc, List, [], Vec, length, refl, ap, sym}
use Rattle.std.proofs.Common.{subst, length-append, arith}
use Rattle.std.proofs.lemmas.List.Elements.{All-cons, All-nil}
use Rattle.std.specs.List.{flat_map, slice_get}
use Rattle.std.specs.Prelude.{All}
use Rattle.std.specs.declared.alloc.Global.{Global}
use Rattle.base.specs.declared.rr_key.RrKey.{RrKey}
use Rattle.rr.specs.RecordSet.{SetValue}
use Rattle.txt.specs.Run.{AreFilled, sets_of}
use Rattle.txt.specs.ZoneSets.{ZoneSets}

abbrev Block : Type 0
Block = Vec (RrKey × SetValue) Global

-- what is true of all blocks is true of those before the last one, and of that
front : (P : Block → Type 0) (xs ys : List Block) → All P (xs ++ ys) → All P xs
front P [] ys h = All-nil P
front P (x ∷ xs) ys h = All-cons P x xs (h 0 x (omega arith))
    (front P xs ys (λ k d below. h (suc k) d (omega (arith, below))))

back : (P : Block → Type 0) (xs : List Block) (y : Block) → All P (xs ++ y ∷ []) → P y
back P [] y h = h 0 y (omega arith)
back P (x ∷ xs) y h = back P xs y (λ k d below. h (suc k) d (omega (arith, below)))

pub filled_front : (blocks before : List Block) (b : Block) → blocks ≡ before ++ b ∷ [] → AreFilled blocks
    → AreFilled before
filled_front blocks before b is h = front (λ v. v.items ≢ []) before (b ∷ []) (subst AreFilled is h)

pub filled_last : (blocks before : List Block) (b : Block) → blocks ≡ before ++ b ∷ [] → AreFilled blocks → b.items ≢ []
filled_last blocks before b is h = back (λ v. v.items ≢ []) before b (subst AreFilled is h)

last_after : (es : ZoneSets) (f : RrKey × SetValue) (fs : ZoneSets) (n : ℕ) → n ≡ length es + length fs
    → slice_get (es ++ f ∷ fs) n ≡ slice_get (f ∷ fs) (length fs)
last_after [] f fs n is = ap (slice_get (f ∷ fs)) (omega (arith, is))
last_after (e ∷ es) f fs zero is = absurd (omega (arith, is))
last_after (e ∷ es) f fs (suc n) is = last_after es f fs n (omega (arith, is))

-- the last set is that of the last block, which is empty only where no other is there
pub last_of : (blocks : List Block) (last : ZoneSets) → (last ≡ [] → blocks ≡ [])
    → slice_get last (length last - 1) ≡ slice_get (sets_of blocks last) (length (sets_of blocks last) - 1)
last_of [] last none = refl
last_of (b ∷ blocks) [] none = absurd (let is = none refl in cc)
last_of (b ∷ blocks) (f ∷ fs) none =
    let es = flat_map (λ (v : Block). v.items) (b ∷ blocks) in
    let one : length (f ∷ fs) - 1 ≡ length fs = omega arith in
    ap (slice_get (f ∷ fs)) one ∙ sym (last_after es f fs (length (es ++ f ∷ fs) - 1)
    (omega (arith, length-append es (f ∷ fs))))
