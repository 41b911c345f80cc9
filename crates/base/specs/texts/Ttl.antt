-- The texts of TTLs: seconds in decimal (RFC 1035, 5.1), or groups of these with units.
use Rattle.std.specs.Prelude.{ℕ, ◌+◌, ◌-◌, ◌*◌, ◌^◌, ◌==◌, ◌||◌, List, [], ◌∷◌, nat_lt, if◌then◌else◌, Option, Some}
use Rattle.std.specs.Prelude.{None, unwrap_or}
use Rattle.std.specs.Char.{is_ascii_digit}

-- the seconds of a unit: s, m, h, d, w, in either case
abbrev pub unit_of : ℕ → Option ℕ
unit_of c =
    if c == 115 || c == 83 then Some 1
    else (if c == 109 || c == 77 then Some 60
    else (if c == 104 || c == 72 then Some 3600
    else (if c == 100 || c == 68 then Some 86400
    else (if c == 119 || c == 87 then Some 604800
    else None))))

-- the seconds of a group that has digits, with this unit, beside those before it
abbrev pub grouped : ℕ → Option ℕ → Option ℕ → Option ℕ
grouped sum None unit = None
grouped sum (Some number) None = None
grouped sum (Some number) (Some unit) = Some (sum + number * unit)

-- the number of a group with one digit more
abbrev pub digit_after : Option ℕ → ℕ → ℕ
digit_after begun c = unwrap_or begun 0 * 10 + (c - 48)

-- the sum goes on where there is one
abbrev pub ttl_on : (ℕ → Option ℕ) → Option ℕ → Option ℕ
ttl_on more None = None
ttl_on more (Some sum) = more sum

-- The sum of groups of digits and a unit, which the last may lack; from the sum so far, and the number of the group
-- begun, if there is one.
unfoldable pub ttl_sum : ℕ → Option ℕ → List ℕ → Option ℕ
ttl_sum sum begun [] = Some (sum + unwrap_or begun 0)
ttl_sum sum begun (c ∷ text) =
    if is_ascii_digit c then ttl_sum sum (Some (digit_after begun c)) text
    else ttl_on (λ s. ttl_sum s None text) (grouped sum begun (unit_of c))

-- a sum that a TTL can be: 32 bits hold it (RFC 1035, 4.1.3)
abbrev pub below_limit : Option ℕ → Option ℕ
below_limit None = None
below_limit (Some sum) = if nat_lt sum (2 ^ 32) then Some sum else None

-- the seconds that a text says, below 2 to the 32nd
unfoldable pub ttl_of : List ℕ → Option ℕ
ttl_of [] = None
ttl_of (c ∷ text) = below_limit (ttl_sum 0 None (c ∷ text))
