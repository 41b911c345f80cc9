use Rattle.std.proofs.Common.{ap, ◌∙◌}
use Rattle.rr.proofs.SetSteps.{may_enter}
use Rattle.rr.proofs.rr_set.RecordSet.add_copy.Goals as goal

pub enter-requires : goal.enter-requires
enter-requires c =
    may_enter c.args.self.now c.from_rdata-entry.result c.args.rdata.now c.requires
    (ap (λ r. r.name) c.from_rdata-entry.ensures
    ∙ c.in_ok-clone.ensures.cases ∙ ap (λ s. s.name) c.self.view_is)
    (ap (λ r. r.rdata) c.from_rdata-entry.ensures ∙ c.in_ok-clone-2.ensures.cases)
