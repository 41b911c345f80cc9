use Rattle.std.proofs.Common.{◌≡◌, ℕ, List, ◌++◌, length}
use Rattle.std.specs.Fmt.{HasWritten, IsPlainFormatter}
use Rattle.base.specs.names.Labels.{wire_of, labels_of}
use Rattle.base_data.specs.TXT.{txt_text}
use Rattle.base_data.proofs.rdata.txt.display.TXTDisplay.fmt.Given as goal

abbrev pub invariant-loop-string : goal.invariant-loop-string
invariant-loop-string g l = record {
  whole : wire_of (labels_of l.rest) ≡ l.rest;
  written : IsPlainFormatter l.initial.f → (text : List ℕ) × HasWritten g.W.Write.write_str_gives l.initial.f text l.f
      × (text ++ txt_text (labels_of l.rest) ≡ txt_text l.self);
}

abbrev pub decreases-loop-string : goal.decreases-loop-string
decreases-loop-string g l = length l.rest
