-- Comparing names: ASCII letters are the same in either case (RFC 4343, 3; RFC 4034, 6.1).
use Rattle.std.specs.Prelude.{ℕ, Bool, List, [], ◌∷◌, ◌++◌, map, reverse, nat_eq}
use Rattle.std.specs.Bool.{beq}
use Rattle.std.specs.Char.{to_ascii_lowercase}
use Rattle.std.specs.Cmp.Lexicographic.{pointwise, slice_cmp}
use Rattle.std.specs.Hash as fed
use Rattle.std.specs.List.{ends_with}
use Rattle.std.specs.Ordering.{bool_cmp, eq_of_both, nat_cmp, on, then_cmp}
use Rattle.std.specs.declared.cmp.Ordering.{Ordering}
use Rattle.base.specs.names.Labels.{NameValue, wire_of}

-- labels with their ASCII letters in lower case
abbrev pub folded_labels : List (List ℕ) → List (List ℕ)
folded_labels = map (map to_ascii_lowercase)

-- the labels of a name, with their ASCII letters in lower case
abbrev pub folded : NameValue → List (List ℕ)
folded name = folded_labels name.labels

-- the labels as they are
abbrev pub exact : NameValue → List (List ℕ)
exact name = name.labels

-- whether labels are the same, byte for byte
abbrev pub same_labels : List (List ℕ) → List (List ℕ) → Bool
same_labels = pointwise (pointwise nat_eq)

-- The order of labels: from the last to the first, each by its bytes, what is a beginning before what
-- it begins; then the fewer labels first.
abbrev pub labels_cmp : List (List ℕ) → List (List ℕ) → Ordering
labels_cmp = on reverse (slice_cmp (slice_cmp nat_cmp))

-- whether the labels of a are the last labels of b, in whatever case (RFC 4343, 3); the flags are not looked at
abbrev pub is_zone_of : NameValue → NameValue → Bool
is_zone_of a b = ends_with (pointwise nat_eq) (folded b) (folded a)

-- whether names have the same flag, and the same labels as they are shown
abbrev pub same_by : (NameValue → List (List ℕ)) → NameValue → NameValue → Bool
same_by shown = eq_of_both (on (λ n. n.absolute) beq) (on shown same_labels)

-- the canonical form of a name (RFC 4034, 6.2), but for the final zero byte
abbrev pub canonical_name : NameValue → List ℕ
canonical_name name = wire_of (folded name)

-- the order of names by their canonical forms: by the first byte that differs (RFC 4034, 6.3)
abbrev pub canonical_cmp : NameValue → NameValue → Ordering
canonical_cmp = on canonical_name (slice_cmp nat_cmp)

-- relative names before absolute ones, and then by the labels as they are shown
abbrev pub cmp_by : (NameValue → List (List ℕ)) → NameValue → NameValue → Ordering
cmp_by shown = then_cmp (on (λ n. n.absolute) bool_cmp) (on shown labels_cmp)

-- what a hash is fed: the flag, and the labels as they are shown, each with its length before it
abbrev pub fed_by : (NameValue → List (List ℕ)) → NameValue → fed.HashWrites
fed_by shown n = fed.bool n.absolute ++ (wire_of (shown n) ∷ [])

-- the same names: their flags, and their labels in whatever case
abbrev pub same_name : NameValue → NameValue → Bool
same_name = same_by folded

-- the order of names, in any letter case (RFC 4034, 6.1)
abbrev pub name_cmp : NameValue → NameValue → Ordering
name_cmp = cmp_by folded

-- what a hash is fed of a name: its flag and its labels in lower case
abbrev pub name_fed : NameValue → fed.HashWrites
name_fed = fed_by folded

-- the labels in lower case, the flag as it is
abbrev pub lowered : NameValue → NameValue
lowered name = record name { labels = folded name }

-- the same value
abbrev pub same_lower : NameValue → NameValue → Bool
same_lower = same_by exact

-- the order of names in lower case
abbrev pub lower_cmp : NameValue → NameValue → Ordering
lower_cmp = cmp_by exact

-- what a hash is fed of a name in lower case: its flag and its labels as they are
abbrev pub lower_fed : NameValue → fed.HashWrites
lower_fed = fed_by exact
