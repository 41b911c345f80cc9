use Rattle.std.proofs.Common.{ap, ◌∙◌}
use Rattle.rr.proofs.SetSteps.{may_enter}
use Rattle.rr.proofs.rr_set.RecordSet.add_rdata.Goals as goal

pub insert-requires : goal.insert-requires
insert-requires c =
    may_enter c.args.self.now c.from_rdata-entry.result c.args.rdata c.requires
    (ap (λ r. r.name) c.from_rdata-entry.ensures
    ∙ c.in_ok-clone.ensures.cases ∙ ap (λ s. s.name) c.self.view_is) (ap (λ r. r.rdata) c.from_rdata-entry.ensures)
