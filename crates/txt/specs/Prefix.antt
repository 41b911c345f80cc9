-- The fronts of names in their order, as numbers.
use Rattle.std.specs.List.{AllByRecursion}
use Rattle.std.specs.Prelude.{◌≡◌, ◌≢◌, ◌<◌, ◌+◌, ◌-◌, ◌*◌, ◌/◌, ℕ, true, ◌&&◌, List, [], ◌∷◌, nat_le, reverse}
use Rattle.std.specs.Prelude.{if◌then◌else◌}
use Rattle.base.specs.names.Labels.{NameValue}

-- The digit of a byte, of 64: the bytes from `*` to `9` and from `_` to `z` have one, by their order; 0 for others.
unfoldable pub digit : ℕ → ℕ
digit b = if nat_le 42 b && nat_le b 57 then b - 41 else (if nat_le 95 b && nat_le b 122 then b - 78 else 0)

-- each byte has one
abbrev pub HaveDigits : List ℕ → Type 0
HaveDigits = AllByRecursion (λ b. 0 < digit b)

-- what the first of 21 digits counts
abbrev pub FIRST : ℕ
FIRST = 1329227995784915872903807060280344576

-- more than 21 digits
abbrev pub LIMIT : ℕ
LIMIT = 85070591730234615865843651857942052864

-- the digits of a label, and those of the labels before it, as far as there are 21
unfoldable pub led : List ℕ → ℕ → ℕ
led [] others = others / 64
led (b ∷ bs) others = digit b * FIRST + led bs others / 64

-- the digits of labels from the first on
abbrev pub prefix : List (List ℕ) → ℕ
prefix [] = 0
prefix (label ∷ labels) = led label (prefix labels)

-- a number is the prefix of a label before others of this prefix
pub record IsLed (label : List ℕ) (others prefix : ℕ) : Type 0 where
  pub digits : HaveDigits label
  pub value : prefix ≡ led label others
  pub few : prefix < LIMIT

-- a number is the prefix of labels, which all have digits
pub record IsPrefixOf (labels : List (List ℕ)) (number : ℕ) : Type 0 where
  pub digits : AllByRecursion HaveDigits labels
  pub value : number ≡ prefix labels

-- a number is the prefix of an absolute name, from its last label on, or 0
abbrev pub IsPrefix : ℕ → NameValue → Type 0
IsPrefix number name = number ≢ 0 → (name.absolute ≡ true) × IsPrefixOf (reverse name.labels) number
