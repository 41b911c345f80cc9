use Rattle.authority.proofs.FillingLemmas.{last_added}
use Rattle.authority.proofs.filling.Answers.add_last.Goals as goal
use Rattle.authority.specs.Filling.{Adds}
use Rattle.base_data.specs.declared.rdata.RData.{RData}
use Rattle.rr.proofs.SetSteps.{same_clone}
use Rattle.rr.specs.declared.record.Record.{Record}
use Rattle.std.proofs.Common.{Bool, subst}

pub returns-then-branch : goal.returns-then-branch
returns-then-branch c = λ origin class sets.
    last_added origin class sets c.args.soa.now c.args.self.now c.add.new.self
    (subst (λ (b : Bool). Adds c.args.soa.now c.args.self.now b c.add.new.self) c.if-branch.true
    (subst (λ (x : Record RData). Adds x c.args.self.now c.in_ok-add.field-0 c.add.new.self)
    (same_clone _ _ c.in_ok-clone.ensures.cases) c.in_ok-add.ensures))
