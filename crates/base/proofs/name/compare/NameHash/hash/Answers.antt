use Rattle.std.proofs.Common.{◌≡◌, ap, sym, ◌∙◌, subst, take, length, List, ℕ}
use Rattle.base.specs.names.Labels.{AreLabels, wire_of}
use Rattle.base.specs.names.NameOrder.{folded, folded_labels}
use Rattle.base.proofs.names.CompareLemmas.{map_lower-wire}
use Rattle.base.proofs.name.compare.NameHash.hash.Goals as goal

pub returns : goal.returns
returns g c =
    let wire = c.as_wire-wire.ensures in
    let lower : take (length c.as_wire-wire.result.now) c.lower_into.new.room ≡ wire_of (folded c.args.self.now) =
    c.lower_into.ensures
    ∙ map_lower-wire _ wire.whole (subst AreLabels (sym wire.cut) wire.labels)
    ∙ ap (λ (labels : List (List ℕ)). wire_of (folded_labels labels)) wire.cut in
    c.write.ensures ∙ ap (λ (bytes : List ℕ). g.H.Hasher.write c.hash.new.state bytes) lower
    ∙ cc (c.hash.ensures, c.is_fqdn.ensures)
