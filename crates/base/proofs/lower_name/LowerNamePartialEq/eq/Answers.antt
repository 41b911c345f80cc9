use Rattle.std.proofs.Common.{ap, sym, ◌∙◌}
use Rattle.std.specs.Cmp.{both_ways}
use Rattle.base.specs.names.Labels.{NameValue}
use Rattle.base.specs.names.NameOrder.{exact}
use Rattle.base.specs.names.NameOrderLaws.{same_by-is, same_lower-exact}
use Rattle.base.proofs.lower_name.LowerNamePartialEq.eq.Goals as goal

pub returns : goal.returns
returns c =
    let a : NameValue = c.args.self.now in
    let b : NameValue = c.args.other.now in
    both_ways _ _
    (λ h. (same_by-is exact a b).1 (
      ap (λ (n : NameValue). n.absolute) (sym c.self.view_is ∙ c.eq_case.ensures.0 h ∙ c.other.view_is),
      ap (λ (n : NameValue). n.labels) (sym c.self.view_is ∙ c.eq_case.ensures.0 h ∙ c.other.view_is),
    ))
    (λ h. c.eq_case.ensures.1 (c.self.view_is ∙ same_lower-exact a b h ∙ sym c.other.view_is))
