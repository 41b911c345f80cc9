use Rattle.tests_authority.proofs.ZoneLemmas.{are_under_keys}
use Rattle.tests_authority.proofs.zone.parsed.Goals as goal

pub returns : goal.returns
returns c = are_under_keys c.in_ok-zone.zone.1 c.in_ok-zone.ensures.kept
