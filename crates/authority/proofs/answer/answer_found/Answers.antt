use Rattle.authority.proofs.AnswerLemmas.{answer_all, answer_cut, answer_data, answer_last, answer_no_data}
use Rattle.authority.proofs.AnswerLemmas.{answer_no_name}
use Rattle.authority.proofs.AnswerLemmas.{answer_outside, of_value}
use Rattle.authority.proofs.answer.answer_found.Goals as goal
use Rattle.std.proofs.Common.{refl, sym, ◌∙◌}

pub returns-in-Outside-clause-answered : goal.returns-in-Outside-clause-answered
returns-in-Outside-clause-answered c =
    c.plain.ensures ∙ sym (answer_outside c.args.zone.now c.args.record_type 0 c.args.answers.items c.args.name.now
    c.args.found c.requires.found c.in-Outside.is)

pub returns-in-NoName-clause-answered : goal.returns-in-NoName-clause-answered
returns-in-NoName-clause-answered c =
    of_value c.negative.result _ _ (sym (answer_no_name c.args.zone.now c.args.record_type 0 c.args.answers.items
    c.args.name.now c.args.found c.requires.found c.in-NoName.is)) c.negative.ensures.value

pub returns-in-NoData-clause-answered : goal.returns-in-NoData-clause-answered
returns-in-NoData-clause-answered c =
    of_value c.negative-in-NoData.result _ _ (sym (answer_no_data c.args.zone.now c.args.record_type 0
    c.args.answers.items c.args.name.now c.args.found c.requires.found c.in-NoData.is))
    c.negative-in-NoData.ensures.value

pub returns-in-Cut-clause-answered : goal.returns-in-Cut-clause-answered
returns-in-Cut-clause-answered c =
    of_value c.referral.result _ _ (sym (answer_cut c.args.zone.now c.args.record_type 0 c.args.answers.items
    c.args.name.now c.args.found c.requires.found c.in-Cut.servers c.requires.keys c.in-Cut.is))
    c.referral.ensures.value

pub returns-in-Alias-clause-answered : goal.returns-in-Alias-clause-answered
returns-in-Alias-clause-answered c =
    of_value c.unfollowed.result _ _ (sym (answer_last c.args.zone.now c.args.record_type 0 c.args.answers.items
    c.args.name.now c.args.found c.requires.found c.in-Alias.set c.in-Alias.target c.in-Alias.is _ refl refl))
    c.unfollowed.ensures.value

pub returns-in-Data-clause-answered : goal.returns-in-Data-clause-answered
returns-in-Data-clause-answered c =
    of_value c.data.result _ _ (sym (answer_data c.args.zone.now c.args.record_type 0 c.args.answers.items
    c.args.name.now c.args.found c.requires.found c.in-Data.set c.in-Data.is)) c.data.ensures.value

pub returns-in-All-clause-answered : goal.returns-in-All-clause-answered
returns-in-All-clause-answered c =
    of_value c.all_data.result _ _ (sym (answer_all c.args.zone.now c.args.record_type 0 c.args.answers.items
    c.args.name.now c.args.found c.requires.found c.in-All.sets c.in-All.is)) c.all_data.ensures.value
