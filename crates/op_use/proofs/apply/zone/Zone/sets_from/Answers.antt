use Rattle.op_use.proofs.WalkSteps.{IsAt, arrived, not_before}
use Rattle.op_use.proofs.apply.zone.Zone.sets_from.Goals as goal
use Rattle.op_use.proofs.apply.zone.Zone.sets_from.Goals.{in_default-via-in-Some+else-is_lt, in_default-via-in_default}
use Rattle.std.proofs.Common.{IfOk, rules, subst, sym, ◌∙◌, ◌≡◌}

pub returns-in_default : goal.returns-in_default
returns-in_default c =
    let m = c.args.self.now.sets in
    let key = c.args.key.now in
    let walk = c.args.walk.now in
    let here : IsAt m key walk = elim c.in_default.branch [
      | in_default-via-in-Some+else-is_lt w ↦ subst (IsAt m key)
          (sym w.in-Some.ensures.steps ∙ c.in_ok-clone.ensures.cases)
          (not_before key w.in-Some.first.now (search rules))
      | in_default-via-in_default w ↦ subst (IsAt m key)
          (sym w.in_default.ensures.steps.0 ∙ c.in_ok-clone.ensures.cases) tt
    ] in
    subst (λ all. IfOk c.clone-in_default.result (λ sets. sets ≡ all)) (arrived m key walk c.requires here)
    (search rules)
