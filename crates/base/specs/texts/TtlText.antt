-- What the text of a TTL says (RFC 1035, 4.1.3 and 5.1).
use Rattle.std.specs.Prelude.{◌≡◌, ℕ, ◌+◌, ◌*◌, ◌^◌, ◌<◌, List, [], ◌∷◌, ◌++◌, Some}
use Rattle.std.specs.Str.Parse.{IsNumeral, digits_value}
use Rattle.base.specs.texts.Ttl.{unit_of}

-- The texts that say a number of seconds: groups of a decimal number and a unit, one at least, of which the last may
-- lack its unit and then says seconds.
pub data SaysSeconds : List ℕ → ℕ → Type 0 where
  seconds : (digits : List ℕ) → IsNumeral 10 digits → SaysSeconds digits (digits_value 10 digits)
  group : (digits : List ℕ) (c unit : ℕ) → IsNumeral 10 digits → unit_of c ≡ Some unit
      → SaysSeconds (digits ++ c ∷ []) (digits_value 10 digits * unit)
  groups : (digits : List ℕ) (c unit : ℕ) (rest : List ℕ) (others : ℕ) → IsNumeral 10 digits
      → unit_of c ≡ Some unit
      → SaysSeconds rest others
      → SaysSeconds (digits ++ c ∷ rest) (digits_value 10 digits * unit + others)

-- a TTL has 32 bits
abbrev pub IsTtlText : List ℕ → ℕ → Type 0
IsTtlText text said = SaysSeconds text said × (said < 2 ^ 32)
