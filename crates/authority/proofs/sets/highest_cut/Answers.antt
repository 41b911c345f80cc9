use Rattle.authority.proofs.WayLemmas.{IsOnWay, copied_or, way_ends, way_goes_on}
use Rattle.authority.proofs.sets.highest_cut.Goals as goal
use Rattle.base.specs.names.Labels.{NameValue}
use Rattle.base.specs.names.Parents.{parent}
use Rattle.rr.specs.RecordSet.{SetValue}
use Rattle.std.proofs.Common.{ap, subst, sym, ◌∙◌}
use Rattle.std.specs.Option.{option_copied}
use Rattle.std.specs.Prelude.{Option}

pub loop-end-preserved : goal.loop-end-preserved
loop-end-preserved c =
    let origin = c.args.origin.now in
    let m = c.args.sets.now in
    let n = c.args.name in
    let end = c.loop-end.end in
    let on = way_goes_on origin m n end (option_copied c.loop-end.highest) (option_copied c.in_ok-servers.servers)
    (sym c.is_below.ensures ∙ c.loop-end-test.true)
    (sym c.in_ok-servers.ensures) c.loop-end.invariant in
    subst (λ (e : NameValue). IsOnWay origin m n e (option_copied c.or-highest.result)) (sym c.in_ok-end.ensures.value)
    (subst (λ (o : Option SetValue). IsOnWay origin m n (parent end) o)
    (sym (ap option_copied c.or-highest.ensures ∙ copied_or c.in_ok-servers.servers c.loop-end.highest)) on)

pub returns-clause-value : goal.returns-clause-value
returns-clause-value c =
    way_ends c.args.origin.now c.args.sets.now c.args.name c.loop-end.end (option_copied c.loop-end.highest)
    (sym c.is_below.ensures ∙ c.loop-end-test.false) c.loop-end.invariant
