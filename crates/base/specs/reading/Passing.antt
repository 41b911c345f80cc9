-- The offsets that the pointers of a name lead to (RFC 1035, 4.1.4).
use Rattle.std.specs.Prelude.{◌≡◌, ℕ, Bool, true, List, [], ◌∷◌, ◌++◌, nat_eq}
use Rattle.std.specs.FinSet as set
use Rattle.std.specs.List.{list_any}
use Rattle.std.specs.Ordering.{nat_cmp}
use Rattle.base.specs.reading.Spelling.{SpelledIn, Spelled, ends, label, pointer, target}

-- the offsets that the pointers of a spelling lead to, in order
abbrev pub passed : {looks : ℕ → Type 0} {bytes : List ℕ} {s i e : ℕ} {xs : List (List ℕ)}
    → SpelledIn looks bytes s i xs e → List ℕ
passed (ends h) = []
passed (label h some small at rest) = passed rest
passed (pointer {b = b} {c = c} h next high below rest) = target b c ∷ passed rest

-- whether an offset is among these
abbrev pub is_among : List ℕ → ℕ → Bool
is_among ts q = list_any (λ t. nat_eq t q) ts

-- with these offsets too
abbrev pub inserted : List ℕ → set.FinSet nat_cmp → set.FinSet nat_cmp
inserted ts kept = set.union kept (set.from_list ts)

-- all of these offsets are kept
abbrev pub AreIn : set.FinSet nat_cmp → List ℕ → Type 0
AreIn kept ts = (q : ℕ) → is_among ts q ≡ true → set.contains kept q ≡ true

-- what is spelled at t passes kept offsets alone
abbrev pub PassesKept : List ℕ → set.FinSet nat_cmp → ℕ → Type 0
PassesKept bytes kept t = (xs : List (List ℕ)) (e : ℕ) (h : Spelled bytes xs t t e)
    → AreIn kept (passed h)

-- with an offset, all that is passed from there is kept
abbrev pub IsClosed : List ℕ → set.FinSet nat_cmp → Type 0
IsClosed bytes kept = (t : ℕ) → set.contains kept t ≡ true → PassesKept bytes kept t

-- Names stand at these places, and their pointers lead to these offsets, one name's before another's.
pub data NamesPass (bytes : List ℕ) : List ℕ → List ℕ → Type 0 where
  no_names : NamesPass bytes [] []
  one_more : {i e : ℕ} {xs : List (List ℕ)} {places ts : List ℕ} → (h : Spelled bytes xs i i e)
      → NamesPass bytes places ts → NamesPass bytes (i ∷ places) (passed h ++ ts)
