use Rattle.std.proofs.Common.{◌≡◌, ◌+◌, ◌-◌, ◌∙◌, ℕ, List, ap, sym, arith, drop, length, take}
use Rattle.base.proofs.writing.EightLemmas.{eight_last, eight_more, rest_whole}
use Rattle.base.proofs.wire.suffix_table.first.are_same.Goals as goal

pub loop-at-preserved : goal.loop-at-preserved
loop-at-preserved c =
    let xs = c.args.one.now in
    let ys = c.args.other.now in
    let at = c.loop-at.at in
    let next : take 8 (drop at xs) ≡ take 8 (drop at ys) =
    sym (ap (take 8) (rest_whole at xs)) ∙ c.begin_alike.ensures.0 c.if-not-begin_alike.false
    ∙ ap (take 8) (rest_whole at ys) in
    (omega (arith, c.loop-at-test.true), eight_more at xs ys c.loop-at.invariant.1 next)

pub returns : goal.returns
returns c =
    let xs = c.args.one.now in
    let ys = c.args.other.now in
    let at = c.loop-at.at in
    let last = length xs - 8 in
    let long : length xs ≡ last + 8 = omega (arith, c.if-len-lt-STEP.false) in (
      λ is. eight_last at last xs ys (omega (arith, c.loop-at-test.false)) long
          (omega (arith, long, c.if-len-other.false)) c.loop-at.invariant.1
          (sym (ap (take 8) (rest_whole last xs)) ∙ c.begin_alike-2.ensures.0 is ∙ ap (take 8) (rest_whole last ys)),
      λ same. c.begin_alike-2.ensures.1
          (ap (λ (zs : List ℕ). take 8 (take (length zs - last) (drop last zs))) same),
    )
