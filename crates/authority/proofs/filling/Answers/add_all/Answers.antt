use Rattle.authority.proofs.FillingLemmas.{begins_with}
use Rattle.authority.proofs.filling.Answers.add_all.Goals as goal
use Rattle.authority.specs.Filling.{Adds}
use Rattle.base_data.specs.declared.rdata.RData.{RData}
use Rattle.rr.proofs.SetSteps.{same_clone}
use Rattle.rr.specs.declared.record.Record.{Record}
use Rattle.std.proofs.Common.{Bool, subst}

pub returns-clause-value : goal.returns-clause-value
returns-clause-value c =
    let zone = c.args.zone.now in
    begins_with zone.origin.now zone.class zone.sets.now c.args.soa.now c.in_ok-least.least c.in_ok-add_from.field-0
    c.args.self.now c.add.new.self c.add_from.new.self c.in_ok-least.ensures
    (subst (λ (b : Bool). Adds c.args.soa.now c.args.self.now b c.add.new.self) c.if-not-branch.false
    (subst (λ (x : Record RData). Adds x c.args.self.now c.in_ok-add.field-0 c.add.new.self)
    (same_clone _ _ c.in_ok-clone.ensures.cases) c.in_ok-add.ensures)) c.in_ok-add_from.ensures
