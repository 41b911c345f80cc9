use Rattle.std.proofs.Common.{List, ℕ, ap, sym, ◌∙◌}
use Rattle.std.specs.Prelude.{slice_get}
use Rattle.base.specs.names.Labels.{wire_of}
use Rattle.base.proofs.names.LabelLemmas.{labels_of_is}
use Rattle.base.proofs.name.Name.label.Goals as goal

pub loop-label-init : goal.loop-label-init
loop-label-init c =
    let value = c.as_wire-rest.ensures.value in
    let is = labels_of_is _ _ value in
    (ap wire_of is ∙ sym value, ap (λ (labels : List (List ℕ)). slice_get labels c.args.i) is)
