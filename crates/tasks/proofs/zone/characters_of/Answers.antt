use Rattle.std.proofs.Common.{inr}
use Rattle.tasks.proofs.TextLemmas.{are_characters, not_characters}
use Rattle.tasks.proofs.zone.characters_of.Goals as goal

pub returns-in-Ok : goal.returns-in-Ok
returns-in-Ok c = are_characters c.args.text.now c.in-Ok.text.now c.in-Ok.ensures.cases.1 c.in-Ok.ensures.cases.0

pub returns-in-Err : goal.returns-in-Err
returns-in-Err c = inr (not_characters c.args.text.now c.in-Err.ensures.cases.0)
