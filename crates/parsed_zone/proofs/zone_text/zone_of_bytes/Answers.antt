use Rattle.std.proofs.Common.{subst}
use Rattle.txt.specs.Zone.{Texts}
use Rattle.parsed_zone.proofs.TextLemmas.{none_in}
use Rattle.parsed_zone.specs.Faults.{MakesOrRefuses}
use Rattle.parsed_zone.specs.ZoneText.{zone_of_bytes}
use Rattle.parsed_zone.proofs.zone_text.zone_of_bytes.Goals as goal

pub returns-clause-zone : goal.returns-clause-zone
returns-clause-zone c =
    subst (λ (texts : Texts). MakesOrRefuses (λ r. (r.0, r.1.entries))
    (zone_of_bytes texts c.args.origin c.args.bytes.now) c.zone_with_texts.result)
    (none_in c.new-none.result c.new-none.ensures.empty) c.zone_with_texts.ensures.zone
