use Rattle.std.proofs.Common.{sym, ◌∙◌}
use Rattle.parsed_zone.proofs.applying.sets_after.Goals as goal

pub update_in_place-requires : goal.update_in_place-requires
update_in_place-requires c = c.requires (sym c.are_sets_in.ensures ∙ c.if-not-are_sets_in.false)
