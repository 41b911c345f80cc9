use Rattle.std.proofs.Common.{sym, ap, ◌∙◌, arith, ◌≡◌, refl}
use Rattle.std.specs.Char.{to_ascii_lowercase}
use Rattle.std.specs.Cmp.{nat_cmp_is}
use Rattle.std.specs.declared.cmp.Ordering.TheVariants.{Equal}
use Rattle.base.proofs.names.CompareLemmas.{cmp_next, ended_after, then-eq, then-ne}
use Rattle.base.proofs.name.compare.cmp_label.Goals as goal
use Rattle.base.proofs.name.compare.cmp_label.Goals.{then-front-i+else-is_ne, else-front-i}

pub returns : goal.returns
returns c =
    let ended : c.loop-i.i ≡ c.min-shared.result = omega (arith, c.loop-i.auto.i-end, c.loop-i-test.false) in
    c.cmp.ensures ∙ sym (ended_after c.args.left.now c.args.right.now c.loop-i.i (ended ∙ c.min-shared.ensures))
    ∙ c.loop-i.invariant

pub loop-i-preserved : goal.loop-i-preserved
loop-i-preserved c =
    let next = cmp_next c.args.left.now c.args.right.now c.min-shared.result c.loop-i.i in
    elim c.if-front-i.branch [
      | then-front-i+else-is_ne w ↦
          let order = w.cmp-order.ensures ∙ rw (
            w.to_ascii_lowercase.ensures.value,
            w.to_ascii_lowercase-then-front-i.ensures.value,
          ) refl in
          sym (next w.cmp-order.result c.min-shared.ensures c.loop-i-test.true order
          ∙ then-eq w.cmp-order.result _ (sym w.is_ne.ensures ∙ w.if-is_ne.false)) ∙ c.loop-i.invariant
      | else-front-i w ↦ sym (next Equal c.min-shared.ensures c.loop-i-test.true
          (nat_cmp_is _ _ Equal (ap to_ascii_lowercase w.if-front-i.false))) ∙ c.loop-i.invariant
    ]

pub returns-then-is_ne : goal.returns-then-is_ne
returns-then-is_ne c =
    let order = c.cmp-order.ensures ∙ rw (
      c.to_ascii_lowercase.ensures.value,
      c.to_ascii_lowercase-then-front-i.ensures.value,
    ) refl in
    sym (cmp_next c.args.left.now c.args.right.now c.min-shared.result c.loop-i.i c.cmp-order.result
    c.min-shared.ensures c.loop-i-test.true order
    ∙ then-ne c.cmp-order.result _ (sym c.is_ne.ensures ∙ c.if-is_ne.true)) ∙ c.loop-i.invariant
