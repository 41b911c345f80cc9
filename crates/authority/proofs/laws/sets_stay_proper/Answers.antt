use Rattle.authority.proofs.ProperSets.{tidy_proper, updated_proper}
use Rattle.authority.proofs.laws.sets_stay_proper.Goals as goal

pub returns : goal.returns
returns c =
    let zones = c.built_updates_apply_as_named.ensures.zones in
    record { tidy = tidy_proper zones; updated = updated_proper zones }
