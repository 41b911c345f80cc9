-- The order of serials, which count on from 4294967295 to 0 (RFC 1982, 3.1 and 3.2).
use Rattle.std.specs.Prelude.{ℕ, Bool, true, false, ◌≡◌, ◌≢◌, ◌↔◌, ◌⊎◌, ◌&&◌, ◌||◌, ◌<◌, ◌+◌, ◌-◌, ◌%◌, ◌^◌, nat_lt}

-- whether a serial is greater than an old one: it lies less than half of all serials after it
abbrev pub is_greater : ℕ → ℕ → Bool
is_greater old new = (nat_lt old new && nat_lt (new - old) (2 ^ 31))
    || (nat_lt new old && nat_lt (2 ^ 31) (old - new))

-- no serial is greater than itself
abbrev pub NotGreaterThanItself : Type 0
NotGreaterThanItself = (s : ℕ) → is_greater s s ≡ false

-- of two serials one at most is greater
abbrev pub NotBothGreater : Type 0
NotBothGreater = (s t : ℕ) → is_greater s t ≡ true → is_greater t s ≡ false

-- of two different serials neither is greater exactly where half of all serials lies between them
abbrev pub UndefinedHalfway : Type 0
UndefinedHalfway = (s t : ℕ) → s ≢ t
    → ((is_greater s t ≡ false) × (is_greater t s ≡ false)) ↔ ((t ≡ s + 2 ^ 31) ⊎ (s ≡ t + 2 ^ 31))

-- a serial to which less than half of all serials is added becomes greater
abbrev pub GrowsByAdding : Type 0
GrowsByAdding = (s n : ℕ) → s < 2 ^ 32 → 0 < n → n < 2 ^ 31 → is_greater s ((s + n) % 2 ^ 32) ≡ true
