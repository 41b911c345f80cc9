use Rattle.parsed_zone.proofs.ZoneMaps.{parsed_map}
use Rattle.tests_updates.proofs.updates.in_place.answer.Goals as goal
use Rattle.std.proofs.Common.{sym, ◌∙◌}

pub apply_update-requires : goal.apply_update-requires
apply_update-requires c = parsed_map c.in_ok-name.sets c.in_ok-name.ensures.kept
    (sym c.are_sets_in.ensures ∙ c.if-not-are_sets_in.false)

pub update_in_place-requires : goal.update_in_place-requires
update_in_place-requires c = parsed_map c.in_ok-name.sets c.in_ok-name.ensures.kept
    (sym c.are_sets_in.ensures ∙ c.if-not-are_sets_in.false)
