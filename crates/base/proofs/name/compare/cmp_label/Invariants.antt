use Rattle.std.proofs.Common.{◌≡◌, drop, map}
use Rattle.std.specs.Char.{to_ascii_lowercase}
use Rattle.std.specs.Cmp.Lexicographic.{slice_cmp}
use Rattle.std.specs.Ordering.{nat_cmp}
use Rattle.base.proofs.name.compare.cmp_label.Given as goal

abbrev pub invariant-loop-i : goal.invariant-loop-i
invariant-loop-i l =
    slice_cmp nat_cmp (map to_ascii_lowercase (drop l.i l.left)) (map to_ascii_lowercase (drop l.i l.right))
    ≡ slice_cmp nat_cmp (map to_ascii_lowercase l.left) (map to_ascii_lowercase l.right)
