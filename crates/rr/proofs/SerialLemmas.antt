-- The order of serials (RFC 1982, 3.2).
use Rattle.std.proofs.Common.{ℕ, true, false, ◌≡◌, ◌≢◌, ◌↔◌, ◌⊎◌, ◌<◌, ◌+◌, ◌%◌, ◌^◌, arith}
use Rattle.std.proofs.lemmas.Bool.Decides.{nat_tests}
use Rattle.rr.specs.SerialOrder.{is_greater}

pub not_greater_than_itself : (s : ℕ) → is_greater s s ≡ false
not_greater_than_itself s = grind (arith, nat_tests)

pub not_both_greater : (s t : ℕ) → is_greater s t ≡ true → is_greater t s ≡ false
not_both_greater s t h = grind (arith, nat_tests)

pub undefined_halfway : (s t : ℕ) → s ≢ t
    → ((is_greater s t ≡ false) × (is_greater t s ≡ false)) ↔ ((t ≡ s + 2 ^ 31) ⊎ (s ≡ t + 2 ^ 31))
undefined_halfway s t other = (λ h. grind (arith, nat_tests), λ h. (grind (arith, nat_tests), grind (arith, nat_tests)))

pub grows_by_adding : (s n : ℕ) → s < 2 ^ 32 → 0 < n → n < 2 ^ 31 → is_greater s ((s + n) % 2 ^ 32) ≡ true
grows_by_adding s n small more half = grind (arith, nat_tests)
