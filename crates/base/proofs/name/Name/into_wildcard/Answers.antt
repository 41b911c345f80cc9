use Rattle.base.proofs.names.WildcardLemmas.{wildcard_labels, wildcard_wire}
use Rattle.base.proofs.name.Name.into_wildcard.Goals as goal
use Rattle.base.specs.names.StoredLabels.{StoredLabels}
use Rattle.std.proofs.Common.{ap, sym, ◌∙◌}

pub invariant_of-result : goal.invariant_of-result
invariant_of-result c =
    wildcard_wire c.args.self.labels c.in-Some.field-0-0.now c.in-Some.rest.now c.set.new.self.items
    c.as_wire.ensures.labels c.as_wire.ensures.plain (sym c.as_wire.ensures.cut
    ∙ c.in-Some.ensures.labels) c.in-Some.ensures.others
    (ap (λ (o : StoredLabels). o.items) c.in_ok-set.ensures.ok)

pub returns-clause-value : goal.returns-clause-value
returns-clause-value c = λ i. record {
  labels = wildcard_labels c.args.self.labels c.in-Some.field-0-0.now c.in-Some.rest.now
      c.set.new.self.items
      c.as_wire.ensures.labels c.as_wire.ensures.plain (sym c.as_wire.ensures.cut
      ∙ c.in-Some.ensures.labels) c.in-Some.ensures.others
      (ap (λ (o : StoredLabels). o.items) c.in_ok-set.ensures.ok) i;
  absolute = (ap (λ (o : StoredLabels). o.is_fqdn) c.in_ok-set.ensures.ok
      ∙ ap (λ (o : StoredLabels). o.is_fqdn) c.none-labels.ensures ∙ c.is_fqdn.ensures) i;
}
