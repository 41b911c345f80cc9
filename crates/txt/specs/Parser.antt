-- A parser of zone text.
use Rattle.std.specs.BTreeMap.{BTreeMap, get_by_text, is_at}
use Rattle.std.specs.Map.{lookup}
use Rattle.std.specs.Ordering.{nat_cmp}
use Rattle.std.specs.Cmp.Lexicographic.{slice_cmp}
use Rattle.std.specs.Prelude.{ℕ, List, Option, String, map, option_map}
use Rattle.std.specs.String.{string_bytes}
use Rattle.std.specs.declared.alloc.Global.{Global}
use Rattle.base.specs.names.Labels.{NameValue}
use Rattle.txt.specs.Zone.{Texts}

-- the text, the texts that it may include, each beside its name, and the origin that was given
pub record ParserValue : Type 0 where
  pub text : List ℕ
  pub includes : List (List ℕ × List ℕ)
  pub origin : Option NameValue

-- the names and the texts of a map
abbrev pub named_texts : BTreeMap (String Global) (String Global) → List (List ℕ × List ℕ)
named_texts includes =
    map (λ (e : String Global × String Global). (string_bytes e.0, string_bytes e.1))
    includes.entries

-- the text of a name, if there is one
abbrev pub text_among : List (List ℕ × List ℕ) → Texts
text_among includes name = lookup (is_at (slice_cmp nat_cmp name)) includes

-- the included texts that were handed in
abbrev pub texts_in : BTreeMap (String Global) (String Global) → Texts
texts_in includes name = option_map string_bytes (get_by_text includes name)
