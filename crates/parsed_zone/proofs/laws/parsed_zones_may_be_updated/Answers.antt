use Rattle.parsed_zone.proofs.ZoneMaps.{zone_map}
use Rattle.parsed_zone.proofs.laws.parsed_zones_may_be_updated.Goals as goal

pub returns : goal.returns
returns c = zone_map
