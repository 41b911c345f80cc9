use Rattle.std.proofs.Common.{◌≡◌, take}
use Rattle.base.specs.texts.NameText.{label_text}
use Rattle.base.proofs.name.display.plain_text.Given as goal

abbrev pub invariant-loop-b : goal.invariant-loop-b
invariant-loop-b l = label_text (take l.b-index l.label) ≡ take l.b-index l.label
