use Rattle.authority.proofs.AnswerLaws.{led_to}
use Rattle.authority.proofs.laws.the_last_name_decides.Goals as goal

pub returns : goal.returns
returns c = led_to
