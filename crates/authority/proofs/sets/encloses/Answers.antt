use Rattle.authority.proofs.SourceLemmas.{encloses_by}
use Rattle.authority.proofs.sets.encloses.Goals as goal
use Rattle.std.proofs.Common.{false, sym, ◌∙◌}
use Rattle.std.proofs.Math.Bool.{or-false}

pub returns-clause-value : goal.returns-clause-value
returns-clause-value c = λ class.
    let there = c.in_ok-at_name.field-0.exists in
    sym (encloses_by c.args.origin.now c.args.sets.now class c.args.name.now there false
    c.in_ok-at_name.ensures.value.0 (sym c.if-eq.false ∙ c.eq.ensures) ∙ or-false there)
