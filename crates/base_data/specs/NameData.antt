-- Names in data: their canonical form (RFC 4034, 6.2).
use Rattle.std.specs.Prelude.{ℕ, List, [], ◌∷◌, ◌++◌}
use Rattle.base.specs.names.Labels.{NameValue}
use Rattle.base.specs.names.NameOrder.{canonical_name}

-- the bytes of a name in canonical form: without compression, letters in lower case, the final zero byte at the end
abbrev pub name_octets : NameValue → List ℕ
name_octets name = canonical_name name ++ 0 ∷ []
