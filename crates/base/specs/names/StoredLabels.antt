-- The labels of a name as they are stored.
use Rattle.std.specs.Char.{to_ascii_lowercase}
use Rattle.std.specs.Prelude.{ℕ, Bool, List, map}

-- the labels, each with its length before it, and whether the name is absolute
pub record StoredLabels : Type 0 where
  pub items : List ℕ
  pub is_fqdn : Bool

-- the same with its ASCII letters in lower case
abbrev pub lower_labels : StoredLabels → StoredLabels
lower_labels o = record o { items = map to_ascii_lowercase o.items }
