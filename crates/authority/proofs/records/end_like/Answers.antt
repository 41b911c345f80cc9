use Rattle.authority.proofs.CutLemmas.{end_goes_on}
use Rattle.authority.proofs.records.end_like.Goals as goal
use Rattle.authority.specs.Answer.{end_like}
use Rattle.std.proofs.Common.{ap, arith, drop, length, sym, ◌-◌, ◌<◌, ◌∙◌, ◌≡◌}

pub loop-end-preserved : goal.loop-end-preserved
loop-end-preserved c =
    let more : length c.args.other.now.labels < length c.loop-end.end.labels = omega arith in
    ap (end_like c.args.other.now) c.in_ok-end-2.ensures.value ∙ end_goes_on c.args.other.now c.loop-end.end more
    ∙ c.loop-end.invariant

pub returns-clause-value : goal.returns-clause-value
returns-clause-value c =
    let end = c.loop-end.end in
    let none : length end.labels - length c.args.other.now.labels ≡ 0 = omega arith in
    sym (ap (λ k. record end { labels = drop k end.labels }) none) ∙ c.loop-end.invariant
