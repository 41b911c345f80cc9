use Rattle.authority.proofs.OwnSets.{first_covered, in_lower, none_left, walk_begins, walk_ends, walk_next}
use Rattle.authority.proofs.sets.own_sets.Goals as goal
use Rattle.authority.proofs.sets.own_sets.Goals.{else-own, then-own}
use Rattle.base.specs.names.NameOrder.{same_lower}
use Rattle.base.specs.names.Parents.{is_within}
use Rattle.op_use.proofs.OwnerKeys.{owned_entry}
use Rattle.op_use.specs.Zone.{is_owned}
use Rattle.std.proofs.Common.{ap, false, refl, sym, true, ◌∙◌, ◌≡◌}
use Rattle.std.proofs.Math.Bool.{or-false}
use Rattle.std.proofs.lemmas.Bool.{not-false, not-true}
use Rattle.std.specs.List.{take_while}
use Rattle.std.specs.Prelude.{◌||◌}

pub loop-key-init : goal.loop-key-init
loop-key-init c = (
  walk_begins c.args.sets.now c.args.name.now c.args.record_type _ c.args.least.now c.requires
      c.range-key-items.ensures.ordered
      (c.into_iter-key-iterator.ensures.into_iter_gives ∙ c.range-key-items.ensures.between tt),
  tt,
  tt,
)

pub loop-key-preserved : goal.loop-key-preserved
loop-key-preserved c =
    let own : is_owned c.args.name.now c.in-Some.key.now ≡ true
    = ap (λ k. same_lower k.name c.in-Some.key.now.name) (sym c.requires)
    ∙ not-false _ (sym c.ne.ensures ∙ c.if-ne.false) in (
      walk_next c.args.sets.now c.args.name.now c.loop-key.key-iterator c.next.new.self c.in-Some.key.now
          c.in-Some.set.now c.in-Some.ensures.steps own c.args.record_type c.loop-key.own (record {
            exists = true;
            servers = c.own_set.result;
            alias = c.own_set-in-loop-key.result;
            asked = c.own_set-in-loop-key-2.result;
          }) refl c.own_set.ensures c.own_set-in-loop-key.ensures c.own_set-in-loop-key-2.ensures
          c.loop-key.invariant.0,
      tt,
      tt,
    )

pub returns-then-ne : goal.returns-then-ne
returns-then-ne c =
    let n = c.args.name.now in
    let key = c.in-Some.key.now in
    let it = c.loop-key.key-iterator in
    let other : is_owned n key ≡ false
    = ap (λ k. same_lower k.name key.name) (sym c.requires)
    ∙ not-true _ (sym c.ne.ensures ∙ c.if-ne.true) in
    let there : c.if-own.result ≡ (c.loop-key.own.exists || first_covered n it) = elim c.if-own.branch [
      | then-own w ↦ w.result-is ∙ w.if-own.true ∙ sym (ap (λ b. b || first_covered n it) w.if-own.true)
      | else-own w ↦ w.result-is ∙ w.is_within.ensures ∙ ap (is_within n) w.as_name.ensures.value
          ∙ in_lower n key.name w.as_name.ensures.lower ∙ ap (λ es. first_covered n es) (sym c.in-Some.ensures.steps)
          ∙ sym (ap (λ b. b || first_covered n it) w.if-own.false)
    ] in
    walk_ends c.args.sets.now n c.args.record_type c.loop-key.own c.if-own.result it
    (none_left c.args.sets.now n it c.next.new.self (key, c.in-Some.set.now) c.in-Some.ensures.steps other) there
    c.loop-key.invariant.0

pub returns : goal.returns
returns c =
    let n = c.args.name.now in
    let own = c.loop-key.own in
    walk_ends c.args.sets.now n c.args.record_type own own.exists c.loop-key.key-iterator
    (ap (take_while (owned_entry n)) c.in-None.ensures.steps.0)
    (sym (or-false own.exists) ∙ ap (λ es. own.exists || first_covered n es) (sym c.in-None.ensures.steps.0))
    c.loop-key.invariant.0
