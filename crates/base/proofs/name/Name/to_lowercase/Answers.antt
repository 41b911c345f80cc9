use Rattle.std.proofs.Common.{ap, arith, length, subst, sym, ◌∙◌, ◌≤◌}
use Rattle.std.proofs.lemmas.Bool.{false≢true}
use Rattle.base.specs.names.Labels.{IsWire, NameValue, labels_of, wire_of}
use Rattle.base.specs.names.StoredLabels.{StoredLabels}
use Rattle.base.proofs.names.CompareLemmas.{IsWire-lower, labels_of-lower, lowered_is}
use Rattle.base.proofs.name.Name.to_lowercase.Goals as goal

pub invariant_of-result : goal.invariant_of-result
invariant_of-result c = subst (λ (o : StoredLabels). IsWire o.items) (sym c.in_ok-to_ascii_lowercase.ensures.value)
    (IsWire-lower _ c.self.invariant)

pub returns-clause-value : goal.returns-clause-value
returns-clause-value c =
    let named : StoredLabels → NameValue = λ o. record { labels = labels_of o.items; absolute = o.is_fqdn } in
    ap named c.in_ok-to_ascii_lowercase.ensures.value
    ∙ lowered_is _ _ _ _ (labels_of-lower _ c.self.invariant) c.self.view_is

pub returns-in_err-to_ascii_lowercase-clause-inline : goal.returns-in_err-to_ascii_lowercase-clause-inline
returns-in_err-to_ascii_lowercase-clause-inline c = λ short.
    let labels = ap (λ (n : NameValue). length (wire_of n.labels)) c.self.view_is in
    let wire = ap length c.self.invariant.whole in
    let few : length c.self.inside.labels.items ≤ 29 = omega (arith, short, labels, wire) in
    absurd (false≢true (c.in_err-to_ascii_lowercase.ensures.inline few))
