-- The name that a name lies directly below (RFC 1034, 3.1), what lies below a name, and the wildcard there (RFC 4592).
use Rattle.base.specs.names.Labels.{NameValue}
use Rattle.base.specs.names.NameOrder.{folded, is_zone_of, same_name}
use Rattle.std.specs.Bool.{beq}
use Rattle.std.specs.Cmp.Lexicographic.{pointwise}
use Rattle.std.specs.List.{ends_with}
use Rattle.std.specs.Prelude.{Bool, List, [], drop, nat_eq, not, ℕ, ◌&&◌, ◌∷◌}

-- the name without its first label
abbrev pub parent : NameValue → NameValue
parent name = record name { labels = drop 1 name.labels }

-- whether b is a or lies below it: it has the same flag, and a's labels are its last ones, in whatever case
abbrev pub is_within : NameValue → NameValue → Bool
is_within a b = beq a.absolute b.absolute && is_zone_of a b

-- the same of a name b that is in lower case, as those of keys are
abbrev pub is_at_or_below : NameValue → NameValue → Bool
is_at_or_below a b =
    beq a.absolute b.absolute && ends_with (pointwise nat_eq) b.labels (folded a)

-- whether b lies below a
abbrev pub is_below : NameValue → NameValue → Bool
is_below a b = is_within a b && not (same_name b a)

-- the label * (RFC 4592, 2.1.1)
abbrev pub asterisk : List ℕ
asterisk = 42 ∷ []

-- labels with another in the place of the first
abbrev pub with_first : List ℕ → List (List ℕ) → List (List ℕ)
with_first label [] = []
with_first label (x ∷ xs) = label ∷ xs

-- the name with an asterisk in the place of its first label
abbrev pub wildcard_of : NameValue → NameValue
wildcard_of name = record name { labels = with_first asterisk name.labels }
