use Rattle.std.proofs.Common.{ℕ, List, ap, ◌∙◌}
use Rattle.std.specs.Char.{to_ascii_lowercase}
use Rattle.std.specs.Cmp.Lexicographic.{slice_cmp}
use Rattle.std.specs.Ordering.{nat_cmp}
use Rattle.std.specs.Prelude.{map}
use Rattle.base.proofs.names.CompareLemmas.{map_lower-wire_of}
use Rattle.base.specs.names.NameOrder.{canonical_name}
use Rattle.base.proofs.name.Name.canonical_cmp.Goals as goal

pub returns : goal.returns
returns c =
    let left = ap (map to_ascii_lowercase) c.as_wire.ensures.value
    ∙ map_lower-wire_of c.args.self.now.labels c.as_wire.ensures.labels in
    let right = ap (map to_ascii_lowercase) c.as_wire-2.ensures.value
    ∙ map_lower-wire_of c.args.other.now.labels c.as_wire-2.ensures.labels in
    c.cmp_label.ensures
    ∙ ap (λ (xs : List ℕ). slice_cmp nat_cmp xs (map to_ascii_lowercase c.as_wire-2.result.now)) left
    ∙ ap (λ (ys : List ℕ). slice_cmp nat_cmp (canonical_name c.args.self.now) ys) right
