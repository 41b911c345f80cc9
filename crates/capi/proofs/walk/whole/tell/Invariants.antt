use Rattle.std.proofs.Common.{◌≡◌, ◌++◌, drop, length, take}
use Rattle.capi.specs.WalkWhole.{items_of, names_of}
use Rattle.capi.proofs.walk.whole.tell.Given as goal

abbrev pub invariant-loop-i : goal.invariant-loop-i
invariant-loop-i l = record {
  at_is : l.at ≡ length (names_of (take l.i l.stops));
  items_are : l.items ≡ items_of 0 (take l.i l.stops) ++ drop l.i l.fn.items;
  names_are : l.names ≡ names_of (take l.i l.stops) ++ drop l.at l.fn.names;
}
