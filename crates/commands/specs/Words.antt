-- Words as texts.
use Rattle.std.specs.Prelude.{ℕ, List, map, String}
use Rattle.std.specs.String.{string_bytes}
use Rattle.std.specs.declared.alloc.Global.{Global}

-- the words as their bytes
abbrev pub as_bytes : List (String Global) → List (List ℕ)
as_bytes words = map string_bytes words
