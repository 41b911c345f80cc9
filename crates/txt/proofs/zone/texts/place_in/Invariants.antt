use Rattle.std.proofs.Common.{◌≡◌, map}
use Rattle.txt.specs.Faults.{frame_opened, inclusion_value}
use Rattle.txt.proofs.zone.texts.place_in.Given as goal

abbrev pub invariant-loop-frame : goal.invariant-loop-frame
invariant-loop-frame l = map inclusion_value l.inclusions.items ≡ map frame_opened l.yielded
