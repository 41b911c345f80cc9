use Rattle.parsed_zone.proofs.ZoneMaps.{tidy_set}
use Rattle.parsed_zone.proofs.laws.parsed_sets_are_tidy.Goals as goal

pub returns : goal.returns
returns c = tidy_set
