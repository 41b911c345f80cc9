use Rattle.std.proofs.Common.{◌≡◌, false, get_or, arith}
use Rattle.std.specs.Prelude.{not, ◌&&◌, ◌==◌}
use Rattle.std.proofs.lemmas.Bool.Decides.{nat_tests}
use Rattle.base.proofs.texts.Cutting.{quoted_more}
use Rattle.base.proofs.text.cutting.quoted_len.Goals as goal
use Rattle.base.proofs.text.cutting.quoted_len.Goals.{else-not-kept-via-then-not-kept+else-c-eq34}
use Rattle.base.proofs.text.cutting.quoted_len.Goals.{else-not-kept-via-else-not-kept, then-not-kept-2, else-not-kept-2}

pub loop-i-preserved : goal.loop-i-preserved
loop-i-preserved c =
    let text = c.args.text.now in
    let goes : (not c.loop-i.kept && (get_or text c.loop-i.i 0 == 34)) ≡ false =
    elim c.else-not-kept.branch [
      | else-not-kept-via-then-not-kept+else-c-eq34 w ↦ grind
          (arith, nat_tests)
      | else-not-kept-via-else-not-kept w ↦ grind (arith, nat_tests)
    ] in
    let now : c.if-not-kept-2.kept ≡ (not c.loop-i.kept && (get_or text c.loop-i.i 0 == 92)) =
    elim c.if-not-kept-2.branch [
      | then-not-kept-2 w ↦ grind (arith, nat_tests)
      | else-not-kept-2 w ↦ grind
          (arith, nat_tests)
    ] in
    rw (now) (quoted_more text c.loop-i.i c.loop-i.kept c.loop-i-test.true goes c.loop-i.invariant)
