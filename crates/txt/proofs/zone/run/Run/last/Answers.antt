use Rattle.std.proofs.Common.{◌-◌, ◌∙◌, ap, length}
use Rattle.std.specs.List.{slice_get}
use Rattle.txt.proofs.BlockLemmas.{last_of}
use Rattle.txt.specs.ZoneSets.{ZoneSets}
use Rattle.txt.proofs.zone.run.Run.last.Goals as goal

pub returns : goal.returns
returns c =
    c.last.ensures.value ∙ ap (λ (sets : ZoneSets). slice_get sets (length sets - 1)) c.deref.ensures.value
    ∙ last_of c.self.inside.blocks.items c.self.inside.last.items c.self.invariant.1
    ∙ ap (λ (sets : ZoneSets). slice_get sets (length sets - 1)) c.self.view_is
