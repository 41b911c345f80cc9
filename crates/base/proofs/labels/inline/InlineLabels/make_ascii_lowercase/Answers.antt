use Rattle.std.proofs.Common.{List, ap, take, ℕ, ◌∙◌}
use Rattle.std.proofs.lemmas.List.{take-map}
use Rattle.std.specs.Char.{to_ascii_lowercase}
use Rattle.base.specs.names.StoredLabels.{lower_labels}
use Rattle.base.proofs.labels.inline.InlineLabels.make_ascii_lowercase.Goals as goal

pub returns : goal.returns
returns c =
    ap (λ (items : List ℕ). record { items = items; is_fqdn = c.self.inside.is_fqdn })
    (ap (take c.self.inside.len) c.make_ascii_lowercase.ensures.after
    ∙ take-map to_ascii_lowercase c.self.inside.len c.self.inside.bytes)
    ∙ ap lower_labels c.self.view_is
