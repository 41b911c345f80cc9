use Rattle.std.proofs.Common.{◌∙◌, ap, take}
use Rattle.std.proofs.lemmas.List.{take-take}
use Rattle.base.proofs.labels.inline.copy_front.Goals as goal

pub returns-then-slice-ge-INLINE_LABELS : goal.returns-then-slice-ge-INLINE_LABELS
returns-then-slice-ge-INLINE_LABELS c = ap (take c.args.used) c.copy_ends.ensures
    ∙ take-take c.args.used 29 c.args.slice.now c.requires.few
