use Rattle.std.proofs.Common.{ap, sym, ◌∙◌, ◌∷◌, [], append_assoc}
use Rattle.txt.specs.Run.{sets_in, sets_of}
use Rattle.txt.specs.ZoneSets.{ZoneSets}
use Rattle.txt.proofs.BlockLemmas.{filled_front, filled_last}
use Rattle.txt.proofs.zone.run.Run.pop.Goals as goal

pub invariant_of-self-2 : goal.invariant_of-self-2
invariant_of-self-2 c = (
  filled_front c.self.inside.blocks.items c.pop-2.new.self.items c.in-Some.block c.in-Some.ensures.items
      c.self.invariant.0,
  λ none. absurd (filled_last c.self.inside.blocks.items c.pop-2.new.self.items c.in-Some.block c.in-Some.ensures.items
      c.self.invariant.0 none),
)

pub returns-then-not-is_empty-clause-items : goal.returns-then-not-is_empty-clause-items
returns-then-not-is_empty-clause-items c =
    sym c.self.view_is ∙ ap (λ (sets : ZoneSets). sets_of c.self.inside.blocks.items sets) c.in_ok-entry.ensures.items
    ∙ sym (append_assoc (sets_in c.self.inside.blocks.items) c.pop.new.self.items (c.in_ok-entry.entry ∷ []))
