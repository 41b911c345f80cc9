use Rattle.std.proofs.Common.{ap, arith}
use Rattle.base.specs.names.Labels.{NameValue, plain_len}
use Rattle.base.proofs.names.LabelLemmas.{size_of-labels_of}
use Rattle.base.proofs.name.Name.as_wire.Goals as goal

pub returns-clause-plain : goal.returns-clause-plain
returns-clause-plain c =
    let wire = c.self.invariant in
    let is = ap (λ (n : NameValue). plain_len n.labels) c.self.view_is in
    omega (arith, is, size_of-labels_of c.self.inside.labels.items wire, wire.short)
