use Rattle.authority.proofs.AnswerLaws.{answers_are_led}
use Rattle.authority.proofs.laws.answers_are_led.Goals as goal

pub returns : goal.returns
returns c = answers_are_led
