use Rattle.base.specs.RrKey.{key_cmp}
use Rattle.op_use.proofs.KeySets.{emptied}
use Rattle.op_use.proofs.SettleSteps.{last_some, putting_next}
use Rattle.op_use.proofs.apply.outcome.put_all.Goals as goal
use Rattle.op_use.specs.Outcome.{added_at, found}
use Rattle.std.proofs.Common.{ap, is_some, refl, subst, sym, ◌<◌, ◌∙◌}
use Rattle.std.proofs.lemmas.Bool.{true≢false}
use Rattle.std.specs.BTreeMap.{get, is_at}
use Rattle.std.specs.Map.{lookup}

pub loop-key-init : goal.loop-key-init
loop-key-init c = record { same = λ q. refl; some = λ q e. e; others = λ q e. refl; stay = λ q e. e }

pub loop-key-preserved-in-Ok : goal.loop-key-preserved-in-Ok
loop-key-preserved-in-Ok c = putting_next c.in-Some.key c.in-Some.set c.args.put.items c.loop-key.put.items
    c.pop.new.self.items c.args.sets.now c.loop-key.sets c.loop-key.invariant c.in-Some.ensures.items
    c.insert.new.self c.in-Ok.ensures.updates.0

pub loop-key-preserved-in-Ok-2 : goal.loop-key-preserved-in-Ok-2
loop-key-preserved-in-Ok-2 c = putting_next c.in-Some.key c.in-Some.set c.args.put.items c.loop-key.put.items
    c.pop.new.self.items c.args.sets.now c.loop-key.sets c.loop-key.invariant c.in-Some.ensures.items
    c.insert.new.self c.in-Ok.ensures.updates.0

pub returns-in_default-insert-clause-err : goal.returns-in_default-insert-clause-err
returns-in_default-insert-clause-err c = λ q e.
    ap (lookup (is_at (key_cmp q))) c.in_default-insert.ensures.err ∙ c.loop-key.invariant.others q e

pub returns-in_default-insert-clause-succeeds : goal.returns-in_default-insert-clause-succeeds
returns-in_default-insert-clause-succeeds c = λ there.
    absurd (true≢false (sym (c.loop-key.invariant.stay c.in-Some.key (there c.in-Some.key
    (last_some c.in-Some.key c.in-Some.set c.args.put.items c.loop-key.put.items c.pop.new.self.items c.args.sets.now
    c.loop-key.sets c.loop-key.invariant c.in-Some.ensures.items)))
    ∙ ap is_some c.in_default-insert.ensures.absent))

pub returns-clause-ok : goal.returns-clause-ok
returns-clause-ok c = λ q.
    sym (ap (λ es. added_at (found es q) (get key_cmp c.loop-key.sets q))
    (emptied c.loop-key.put.items (λ some. c.in_default.ensures.variant.1
    (subst (λ n. 0 < n) (sym c.loop-key.put.ok.0) some)))) ∙ c.loop-key.invariant.same q
