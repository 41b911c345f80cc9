use Rattle.base_data.specs.declared.rdata.RData.{RData}
use Rattle.rr.proofs.SetSteps.{without_none}
use Rattle.rr.proofs.rr_set.changing_set.ChangingSet.take_data.Goals as goal
use Rattle.rr.specs.RecordSet.{SetValue}
use Rattle.rr.specs.SetChanges.{last_ttl, without_data}
use Rattle.rr.specs.declared.record.Record.{Record}
use Rattle.std.proofs.Common.{List, ap, cond, sym, ◌∙◌}
use Rattle.std.proofs.lemmas.Bool.{cond-false}

pub returns-else-branch-clause-ok : goal.returns-else-branch-clause-ok
returns-else-branch-clause-ok c =
    let of : List (Record RData) → SetValue =
    λ rs. record c.self.inside.set {
      records = rs;
      ttl =
          cond c.self.inside.is_changed (last_ttl rs) c.self.inside.set.ttl;
    } in
    let none = sym c.in_ok-take_data.ensures.went ∙ c.if-branch.false in
    ap of (c.in_ok-take_data.ensures.ok ∙ without_none c.args.entry.now c.self.inside.records none)
    ∙ sym (cond-false _ _ _ none) ∙ ap (without_data c.args.entry.now) c.self.view_is
