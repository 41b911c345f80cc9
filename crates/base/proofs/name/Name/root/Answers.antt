use Rattle.std.proofs.Common.{ap}
use Rattle.base.proofs.names.LabelLemmas.{IsWire-nil, is_root_name}
use Rattle.base.specs.names.StoredLabels.{StoredLabels}
use Rattle.base.proofs.name.Name.root.Goals as goal

pub invariant_of-result : goal.invariant_of-result
invariant_of-result c = rw c.none.ensures IsWire-nil

pub returns : goal.returns
returns c = is_root_name _ _ (ap (λ (o : StoredLabels). o.items) c.none.ensures)
    (ap (λ (o : StoredLabels). o.is_fqdn) c.none.ensures)
