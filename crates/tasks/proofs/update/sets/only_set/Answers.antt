use Rattle.std.proofs.Common.{Ok, rules, ◌≡◌}
use Rattle.tasks.proofs.SoundLemmas.{only_is_sound}
use Rattle.tasks.specs.Update.{only_set}
use Rattle.tasks.proofs.update.sets.only_set.Goals as goal

pub returns-clause-sound : goal.returns-clause-sound
returns-clause-sound c =
    let only : only_set c.args.sets.entries ≡ Ok c.in-Some.set = search rules in
    only_is_sound c.args.sets.entries c.in-Some.set c.requires.keyed c.requires.class only
