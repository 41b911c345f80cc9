use Rattle.std.proofs.Common.{rules, not, ap, ◌∙◌}
use Rattle.std.proofs.lemmas.Fn.{filter_same}
use Rattle.base_data.specs.OPT.{has_code, without_code}
use Rattle.base_data.proofs.rdata.opt.OPT.remove.Goals as goal

pub returns : goal.returns
returns c = filter_same _ (λ option. not (has_code c.args.code option)) _
    (λ x b q h. search rules) _ _ c.retain.ensures.filtered ∙ ap (without_code c.args.code) c.self.view_is
