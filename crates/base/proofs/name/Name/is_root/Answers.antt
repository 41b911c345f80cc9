use Rattle.std.proofs.Common.{◌≡◌, [], length, ap, sym, ◌∙◌, true}
use Rattle.std.proofs.lemmas.Bool.{eqb-true, eq-eqb}
use Rattle.std.proofs.lemmas.List.{nil_from_length}
use Rattle.base.specs.names.Labels.{NameValue}
use Rattle.base.proofs.names.LabelLemmas.{is_root_name, nil_from_labels_of}
use Rattle.base.proofs.name.Name.is_root.Goals as goal

pub returns-then-is_fqdn : goal.returns-then-is_fqdn
returns-then-is_fqdn c =
    let bytes = c.self.inside.labels.items in
    let slice = c.as_slice.result.now in
    let forward = λ (h : c.is_empty.result ≡ true).
    let none : bytes ≡ [] = sym c.as_slice.ensures
    ∙ nil_from_length slice (eqb-true (length slice) 0 (sym c.is_empty.ensures ∙ h)) in
    sym c.self.view_is ∙ is_root_name bytes c.self.inside.labels.is_fqdn none
    (sym c.is_fqdn.ensures ∙ c.if-is_fqdn.true) in
    let back = λ (h : ◌≡◌ {A = NameValue} c.args.self.now (record { labels = []; absolute = true })).
    let none : bytes ≡ [] = nil_from_labels_of bytes c.self.invariant.whole
    (ap (λ (n : NameValue). n.labels) (c.self.view_is ∙ h)) in
    c.is_empty.ensures ∙ eq-eqb (length slice) 0 (ap length (c.as_slice.ensures ∙ none)) in
    (forward, back)
