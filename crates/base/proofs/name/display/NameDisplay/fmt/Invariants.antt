use Rattle.std.proofs.Common.{◌≡◌, ℕ, List, ◌++◌, length}
use Rattle.std.specs.Fmt.{HasWritten, IsPlainFormatter}
use Rattle.base.specs.names.Labels.{wire_of, labels_of}
use Rattle.base.specs.texts.NameText.{labels_text}
use Rattle.base.proofs.name.display.NameDisplay.fmt.Given as goal

abbrev pub invariant-loop-label : goal.invariant-loop-label
invariant-loop-label g l = record {
  whole : wire_of (labels_of l.rest) ≡ l.rest;
  written : IsPlainFormatter l.initial.f → (text : List ℕ) × HasWritten g.W.Write.write_str_gives l.initial.f text l.f
      × (text ++ labels_text (labels_of l.rest) ≡ labels_text l.self.labels);
}

abbrev pub decreases-loop-label : goal.decreases-loop-label
decreases-loop-label g l = length l.rest
