use Rattle.std.proofs.Common.{◌≡◌, ◌*◌, ◌≤◌, length, take}
use Rattle.capi.specs.WalkWhole.{names_of}
use Rattle.capi.proofs.walk.whole.room_for.Given as goal

abbrev pub invariant-loop-stop : goal.invariant-loop-stop
invariant-loop-stop l = (l.names ≡ length (names_of (take l.stop-index l.stops))) × (l.names ≤ 255 * l.stop-index)
