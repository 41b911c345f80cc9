-- What is written, of parts.
use Rattle.std.proofs.Common.{◌≡◌, ℕ, zero, suc, ◌+◌, ◌<◌, ◌≤◌, List, [], ◌∷◌, ◌++◌, length, map, take, get_or, refl}
use Rattle.std.proofs.Common.{ap, sym, ◌∙◌, subst, append_assoc, arith, length-append}
use Rattle.std.specs.Prelude.{Result, Ok, Err}
use Rattle.std.proofs.lemmas.List.{append-nil, take_more}
use Rattle.base.specs.declared.error.proto_error.ProtoError.{ProtoError}
use Rattle.base.specs.declared.error.proto_error.ProtoError.TheVariants as refusals
use Rattle.base.specs.writing.State.{State}
use Rattle.base.specs.writing.Written.{Writing, piece_at, after, Exactly, just, both, in_turn}

-- what both write, the second writes after the first
pub after-both : (f g : Writing) (s : State) → after (both f g) s ≡ after g (after f s)
after-both f g s = simp (length-append, append_assoc)

-- no byte changes nothing
pub after-none : (s : State) → after (just []) s ≡ s
after-none s = rw append-nil

-- a part that has no more bytes was refused
pub Exactly-refused : (X Y : Type 0) (e : ProtoError) (f g : Writing) (a s y z : State) → s.limit ≡ a.limit
    → length s.bytes + length (piece_at g s).bytes ≤ length a.bytes + length (piece_at f a).bytes
    → Exactly {X = X} g s y (Err e) → Exactly {X = Y} f a z (Err e)
Exactly-refused X Y refusals.MaxBufferSizeExceeded f g a s y z same fits is = omega (arith, is)
Exactly-refused X Y other f g a s y z same fits is = is

-- what was written from s on is what was to be written from a on
pub Exactly-from : {X : Type 0} (r : Result X ProtoError) (f g : Writing) (a s z : State) → after f a ≡ after g s
    → Exactly g s z r → Exactly f a z r
Exactly-from (Ok x) f g a s z same is = is ∙ sym same
Exactly-from {X} (Err e) f g a s z same is =
    let lengths = ap (λ (u : State). length u.bytes) same in
    Exactly-refused X X e f g a s z z (ap (λ (u : State). u.limit) (sym same))
    (omega (arith, lengths, length-append a.bytes (piece_at f a).bytes, length-append s.bytes (piece_at g s).bytes)) is

-- the first part was written, and then the second or not
pub Exactly-then : {X : Type 0} (r : Result X ProtoError) (f g : Writing) (a s z : State) → s ≡ after f a
    → Exactly g s z r → Exactly (both f g) a z r
Exactly-then r f g a s z first second = Exactly-from r (both f g) g a s z
    (after-both f g a ∙ ap (after g) (sym first)) second

-- the first part was refused
pub Exactly-first : (X Y : Type 0) (e : ProtoError) (f g : Writing) (a s z : State) → Exactly {X = X} f a s (Err e)
    → Exactly {X = Y} (both f g) a z (Err e)
Exactly-first X Y e f g a s z is =
    let first = piece_at f a in
    let more = length-append first.bytes (g (length a.bytes + length first.bytes) first.suffixes).bytes in
    Exactly-refused X Y e (both f g) f a a s z refl (omega (arith, more)) is

-- the same, said in another way
pub Exactly-same : {X : Type 0} (r : Result X ProtoError) (f g : Writing) (a z : State) → f ≡ g → Exactly f a z r
    → Exactly g a z r
Exactly-same r f g a z same is = rw same at is

-- ---- items

module _ {A : Type 0} (f : A → Writing) where
  -- one more
  pub after-push : (xs : List A) (x : A) (s : State)
      → after (in_turn f (xs ++ x ∷ [])) s ≡ after (f x) (after (in_turn f xs) s)
  after-push [] x s = after-both (f x) (just []) s ∙ after-none (after (f x) s) ∙ ap (after (f x)) (sym (after-none s))
  after-push (y ∷ xs) x s =
      after-both (f y) (in_turn f (xs ++ x ∷ [])) s ∙ after-push xs x (after (f y) s)
      ∙ ap (after (f x)) (sym (after-both (f y) (in_turn f xs) s))

  -- one of them was refused
  pub Exactly-in_turn : (xs : List A) (i : ℕ) (x : A) (X Y : Type 0) (e : ProtoError) (a s z : State) → i < length xs
      → x ≡ get_or xs i x → s ≡ after (in_turn f (take i xs)) a
      → Exactly {X = X} (f x) s z (Err e) → Exactly {X = Y} (in_turn f xs) a z (Err e)
  Exactly-in_turn [] i x X Y e a s z inside at before is = absurd (omega arith)
  Exactly-in_turn (y ∷ ys) zero x X Y e a s z inside same before is =
      Exactly-first X Y e (f y) (in_turn f ys) a z z (subst (λ (u : State). Exactly {X = X} (f y) u z (Err e))
      (before ∙ after-none a) (subst (λ (w : A). Exactly {X = X} (f w) s z (Err e)) same is))
  Exactly-in_turn (y ∷ ys) (suc i) x X Y e a s z inside at before is =
      Exactly-then {X = Y} (Err e) (f y) (in_turn f ys) a (after (f y) a) z refl
      (Exactly-in_turn ys i x X Y e (after (f y) a) s z (omega arith) at
      (before ∙ after-both (f y) (in_turn f (take i ys)) a) is)

  -- one more of these
  pub after-more : (xs : List A) (i : ℕ) (x : A) (s : State) → i < length xs → x ≡ get_or xs i x
      → after (in_turn f (take (i + 1) xs)) s ≡ after (f x) (after (in_turn f (take i xs)) s)
  after-more xs i x s inside at = rw (take_more xs i x inside, ← at) (after-push (take i xs) x s)

-- of items that are read of values
pub in_turn-map : {A E : Type 0} (view : A → E) (f : E → Writing) (xs : List A)
    → in_turn (λ x. f (view x)) xs ≡ in_turn f (map view xs)
in_turn-map view f [] = refl
in_turn-map view f (x ∷ xs) = ap (both (f (view x))) (in_turn-map view f xs)
