use Rattle.std.proofs.Common.{ap, None, Result, Some, true, ◌∙◌}
use Rattle.base.specs.names.Labels.{NameValue}
use Rattle.txt.specs.Parser.{text_among}
use Rattle.txt.specs.Zone.{PlacedFault, placed_zone_by}
use Rattle.txt.specs.ZoneSets.{ZoneSets}
use Rattle.tasks.proofs.CheckLemmas.{checked_is, zone_parsed}
use Rattle.tasks.specs.ZoneCheck.{fault_told, told_value}
use Rattle.tasks.proofs.zone_check.check.Goals as goal

pub returns-in-Ok : goal.returns-in-Ok
returns-in-Ok c = checked_is c.args.origin.now c.args.text.now c.args.included.now c.args.included_bytes.now _ _ _ None
    c.in_ok-origin.ensures c.in_ok-text.ensures c.in_ok-texts.ensures
    (ap (λ (made : Result (NameValue × ZoneSets) PlacedFault). fault_told made)
    (zone_parsed true c.in_ok-origin.origin c.in_ok-text.text.now c.in_ok-texts.texts c.new.result c.new.ensures
    ∙ c.in-Ok.ensures.zone))

pub returns : goal.returns
returns c =
    let parsed : Result (NameValue × ZoneSets) PlacedFault =
    placed_zone_by true (text_among c.new.result.includes) c.new.result.origin c.new.result.text in
    checked_is c.args.origin.now c.args.text.now c.args.included.now c.args.included_bytes.now _ _ _
    (Some (told_value c.in_ok-tell-in-Err.field-0))
    c.in_ok-origin.ensures c.in_ok-text.ensures c.in_ok-texts.ensures
    (ap (λ (made : Result (NameValue × ZoneSets) PlacedFault). fault_told made)
    (zone_parsed true c.in_ok-origin.origin c.in_ok-text.text.now c.in_ok-texts.texts c.new.result c.new.ensures)
    ∙ c.in_ok-tell-in-Err.ensures.told parsed c.in-Err.ensures.zone)
