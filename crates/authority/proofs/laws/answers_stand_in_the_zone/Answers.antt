use Rattle.authority.proofs.AnswerLaws.{answers_are_led}
use Rattle.authority.proofs.StandingLemmas.{led_stand}
use Rattle.authority.proofs.laws.answers_stand_in_the_zone.Goals as goal
use Rattle.authority.specs.Answer.{answer}
use Rattle.std.proofs.Common.{[], ◌+◌}

pub returns : goal.returns
returns c = λ z t room n. led_stand z t n (room + 1) (answer z t room [] n).answers (answers_are_led z t room n)
