use Rattle.authority.proofs.SetLemmas.{set_here}
use Rattle.authority.proofs.sets.add_sets.Goals as goal
use Rattle.base.specs.names.NameOrder.{same_lower}
use Rattle.base.specs.declared.rr_key.RrKey.{RrKey}
use Rattle.op_use.proofs.OwnerKeys.{starts}
use Rattle.rr.specs.RecordSet.{SetValue}
use Rattle.std.proofs.Common.{[], List, ap, map, rules, sym, true, ◌++◌, ◌∙◌, ◌∷◌, ◌≡◌}
use Rattle.std.proofs.lemmas.Bool.{not-false}
use Rattle.std.specs.Borrow.{Bor}
use Rattle.std.specs.Map.{values_of}

pub loop-key-init : goal.loop-key-init
loop-key-init c = (
  λ owner is. ap (λ (es : List (RrKey × SetValue)). map (λ (s : Bor SetValue). s.now) c.args.found.now.items
      ++ values_of es) (starts owner (λ q. true) c.args.least.now _ c.args.sets.now.entries is
      c.range-key-items.ensures.ordered
      (c.into_iter-key-iterator.ensures.into_iter_gives ∙ c.range-key-items.ensures.between tt)),
  tt,
  tt,
)

pub loop-key-preserved : goal.loop-key-preserved
loop-key-preserved c =
    let more : c.push.new.self.items ≡ c.loop-key.found.items ++ c.in-Some.set ∷ [] = search rules in (
      λ owner is. set_here owner c.loop-key.found.items c.push.new.self.items c.in-Some.set c.loop-key.key-iterator
          c.next.new.self c.in-Some.key.now _ more c.in-Some.ensures.steps
          (ap (λ k. same_lower k.name c.in-Some.key.now.name) (sym is)
          ∙ not-false _ (sym c.ne.ensures ∙ c.if-ne.false)) (c.loop-key.invariant.0 owner is),
      tt,
      tt,
    )
