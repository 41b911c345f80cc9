use Rattle.std.proofs.Common.{length, ap, sym, ◌∙◌, arith}
use Rattle.base.specs.names.Labels.{wire_of}
use Rattle.base.proofs.names.LabelLemmas.{labels_of_is}
use Rattle.base.proofs.name.Name.label_count.Goals as goal

pub loop-tail-init : goal.loop-tail-init
loop-tail-init c =
    let wire = c.as_wire-rest.ensures in
    let is = labels_of_is _ _ wire.value in
    (ap wire_of is ∙ sym wire.value, omega (arith, ap length is), omega (arith, wire.short))
