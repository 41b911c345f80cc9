-- Data of several fields: equal where each of them is, and written one after another.
use Rattle.std.proofs.Common.{Bool, IsTrue, List, ap, false, length, sym, take, true, ℕ, ◌++◌, ◌<◌, ◌^◌, ◌∙◌, ◌≡◌}
use Rattle.std.proofs.Math.Seq.{take-append_seam}
use Rattle.std.proofs.lemmas.List.{append_cancel_left}
use Rattle.std.proofs.lemmas.Nat.{from_be_bytes-to_be_bytes_2, from_be_bytes-to_be_bytes_4}
use Rattle.std.specs.Cmp.{unsigned_Decides}
use Rattle.std.specs.Int.{from_be_bytes, to_be_bytes, w16, w32}
use Rattle.std.specs.Prelude.{◌&&◌, ◌==◌}

-- both, where each
pub both : (p q : Bool) → p ≡ true → q ≡ true → (p && q) ≡ true
both true q a b = b
both false q a b = a

-- numbers that are tested
pub number_is : (m n : ℕ) → IsTrue (m == n) → m ≡ n
number_is m n = (unsigned_Decides m n).0

pub is_number : (m n : ℕ) → m ≡ n → IsTrue (m == n)
is_number m n = (unsigned_Decides m n).1

-- lists that begin with as many elements
pub split : (x y u v : List ℕ) → length x ≡ length y → x ++ u ≡ y ++ v → (x ≡ y) × (u ≡ v)
split x y u v long e =
    let first : x ≡ y =
    sym (take-append_seam x u) ∙ ap (take (length x)) e ∙ ap (λ (n : ℕ). take n (y ++ v)) long ∙ take-append_seam y v in
    (first, append_cancel_left y u v (ap (λ (w : List ℕ). w ++ u) (sym first) ∙ e))

-- numbers that are written alike
pub word_same : (m n : ℕ) → m < 2 ^ 16 → n < 2 ^ 16 → to_be_bytes w16 m ≡ to_be_bytes w16 n → m ≡ n
word_same m n p q e = sym (from_be_bytes-to_be_bytes_2 m p) ∙ ap (from_be_bytes w16) e ∙ from_be_bytes-to_be_bytes_2 n q

pub long_same : (m n : ℕ) → m < 2 ^ 32 → n < 2 ^ 32 → to_be_bytes w32 m ≡ to_be_bytes w32 n → m ≡ n
long_same m n p q e = sym (from_be_bytes-to_be_bytes_4 m p) ∙ ap (from_be_bytes w32) e ∙ from_be_bytes-to_be_bytes_4 n q
