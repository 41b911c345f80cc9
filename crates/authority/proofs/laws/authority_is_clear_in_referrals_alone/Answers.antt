use Rattle.authority.proofs.AnswerLaws.{clear_in_referrals, referrals_are_clear}
use Rattle.authority.proofs.laws.authority_is_clear_in_referrals_alone.Goals as goal

pub returns : goal.returns
returns c = λ z t room n.
    (clear_in_referrals z t room n, λ referred. referrals_are_clear z t room n referred.0 referred.1)
