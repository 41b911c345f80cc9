use Rattle.base.specs.RrKey.{key_cmp}
use Rattle.op_use.proofs.KeySets.{one_more, one_taken, put_beside, put_here}
use Rattle.op_use.proofs.apply.outcome.remove_all.Goals as goal
use Rattle.op_use.specs.MapUpdates.{LacksKeys}
use Rattle.std.proofs.Common.{None, refl, subst}
use Rattle.std.proofs.lemmas.List.{take_all}
use Rattle.std.specs.BTreeMap.{get}

pub loop-key-init : goal.loop-key-init
loop-key-init c = λ q. refl

pub loop-key-preserved : goal.loop-key-preserved
loop-key-preserved c =
    let k = c.key-item.result in
    let puts = c.remove.ensures.updates.0 in
    subst (λ ks. LacksKeys ks c.args.sets.now c.remove.new.self)
    (one_taken _ c.loop-key.key-index k c.loop-key-test.true c.key-item.is)
    (one_more (λ q. None) (λ q. get key_cmp c.args.sets.now q) k _ c.loop-key.sets c.loop-key.invariant
    c.remove.new.self (put_here k None c.loop-key.sets c.remove.new.self puts)
    (put_beside k None c.loop-key.sets c.remove.new.self puts))

pub returns : goal.returns
returns c = subst (λ ks. LacksKeys ks c.args.sets.now c.loop-key.sets)
    (take_all c.loop-key.key-index c.args.keys.now c.loop-key-test.false) c.loop-key.invariant
