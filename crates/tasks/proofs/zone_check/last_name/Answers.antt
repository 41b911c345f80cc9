use Rattle.std.proofs.Common.{sym}
use Rattle.tasks.proofs.CheckLemmas.{last_inclusion}
use Rattle.tasks.proofs.zone_check.last_name.Goals as goal

pub returns-in-Some : goal.returns-in-Some
returns-in-Some c =
    sym (last_inclusion c.args.inclusions.items c.pop.new.self.items c.in-Some.inclusion c.in-Some.ensures.items)
