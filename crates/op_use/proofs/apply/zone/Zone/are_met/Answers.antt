use Rattle.op_use.proofs.ListedSteps.{all_done, one_fails, passed, passes}
use Rattle.op_use.proofs.WholeSteps.{all_met_same}
use Rattle.op_use.proofs.apply.zone.Zone.are_met.Goals as goal
use Rattle.op_use.specs.HeldZone.{HeldZone}
use Rattle.op_use.specs.MapFaults.{is_by_value}
use Rattle.std.proofs.Common.{ap, rules, sym, ◌≡◌, ◌∙◌}

pub returns-then-not-branch : goal.returns-then-not-branch
returns-then-not-branch c =
    let z = c.args.self.now in
    let r = c.entry-item.result in
    let by_value : c.match-matches.matches ≡ is_by_value c.self.inside.class c.entry-item.result = search rules in
    let own = ap (λ (y : HeldZone). is_by_value y.class c.entry-item.result) (sym c.self.view_is) ∙ sym by_value
    ∙ c.if-matches.true in
    one_fails (passes z.sets z.class c.args.entries.now) c.args.entries.now c.loop-entry.entry-index r _
    c.loop-entry-test.true c.entry-item.is
    (passed z.sets z.class c.args.entries.now r _ own c.in_ok-is_met.ensures.met ∙ c.if-not-branch.true)
    c.loop-entry.invariant.left
    ∙ all_met_same z.origin z.class z.sets c.args.entries.now

pub returns : goal.returns
returns c =
    let z = c.args.self.now in
    all_done (passes z.sets z.class c.args.entries.now) c.args.entries.now c.loop-entry.entry-index _
    c.loop-entry-test.false c.loop-entry.invariant.left
    ∙ all_met_same z.origin z.class z.sets c.args.entries.now
