use Rattle.authority.proofs.AnswerLemmas.{of_value}
use Rattle.authority.proofs.answer.answer_from.Goals as goal
use Rattle.authority.specs.Answer.{answer}
use Rattle.authority.specs.ZoneRef.{zone_of}
use Rattle.authority.specs.declared.answer.TheConstants.{MAX_ALIASES}
use Rattle.base_data.specs.declared.rdata.RData.{RData}
use Rattle.rr.specs.declared.record.Record.{Record}
use Rattle.std.proofs.Common.{List, ap, ◌∙◌}

pub returns-clause-answered : goal.returns-clause-answered
returns-clause-answered c =
    of_value c.answer_found.result _ _ (c.in_ok-last.ensures.followed
    ∙ ap (λ (xs : List (Record RData)). answer (zone_of c.args.zone.now) c.args.record_type MAX_ALIASES xs
    c.args.name.now) c.new-answers.ensures.items) c.answer_found.ensures.answered
