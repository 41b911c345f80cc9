use Rattle.std.proofs.Common.{ℕ, List, ◌∷◌, ◌++◌, [], ap, ◌∙◌}
use Rattle.std.specs.Char.{to_ascii_lowercase}
use Rattle.std.specs.Prelude.{map}
use Rattle.base.proofs.names.CompareLemmas.{map_lower-wire_of}
use Rattle.base_data.proofs.rdata.canonical.NameOctets.of.Goals as goal

pub returns : goal.returns
returns c =
    ap (λ (xs : List ℕ). map to_ascii_lowercase xs ++ 0 ∷ []) c.as_wire.ensures.value
    ∙ ap (λ (xs : List ℕ). xs ++ 0 ∷ []) (map_lower-wire_of c.args.name.now.labels c.as_wire.ensures.labels)
