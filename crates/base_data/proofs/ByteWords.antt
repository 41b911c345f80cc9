-- Data that is bytes.
use Rattle.std.proofs.Common.{IsTrue, List, [], arith, length, refl, ℕ, ◌∷◌, ◌≡◌, ◌≢◌, ◌≤◌}
use Rattle.std.specs.Cmp.Lexicographic.{bytes_decides}
use Rattle.std.specs.Prelude.{◌↔◌}
use Rattle.base.specs.Words.{Bytes}
use Rattle.base_data.proofs.Tells.{room_after}
use Rattle.base_data.specs.Opaque.{same_bytes}

pub bytes_same : (a b : List ℕ) → IsTrue (same_bytes a b) ↔ (a ≡ b)
bytes_same a b = let d = bytes_decides a b in (λ yes. d.0 yes, λ is. d.1 is)

-- bytes that are some
pub some_bytes : {A : Type 0} (xs : List A) → xs ≢ [] → 1 ≤ length xs
some_bytes [] other = absurd (other refl)
some_bytes (x ∷ xs) other = omega arith

-- bytes end inside the buffer
pub bytes_inside : (xs B : List ℕ) (i e : ℕ) → i ≤ length B → Bytes xs B i e → e ≤ length B
bytes_inside xs B i e inside h = omega (arith, room_after xs B i h.0 inside, h.1)
