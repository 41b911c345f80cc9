use Rattle.std.proofs.Common.{◌≡◌, [], refl, ap, sym, ◌∙◌, Some, true, false, not}
use Rattle.std.specs.Ordering.{is_eq}
use Rattle.std.specs.declared.cmp.Ordering.{Ordering}
use Rattle.std.specs.declared.cmp.Ordering.TheVariants.{Less, Equal, Greater}
use Rattle.base.proofs.names.KeyLemmas.{key_cmp-exact}
use Rattle.base.specs.RrKey.{key_cmp}
use Rattle.base.specs.contracts.rr_key.RrKeyOrd.TheImpl.Laws.{matches_eq-law}
use Rattle.base.specs.declared.rr_key.RrKey.{RrKey}
use Rattle.std.specs.Prelude.{◌≢◌}
use Rattle.txt.proofs.SetsInOrder.{above_by_last, one_last}
use Rattle.txt.proofs.zone.sets.take_last.Goals as goal

after : (o : Ordering) → not (is_eq o) ≡ true → o ≢ Less → o ≡ Greater
after Less is not = absurd (not refl)
after Equal is not = absurd cc
after Greater is not = refl

equal : (o : Ordering) → not (is_eq o) ≡ false → o ≡ Equal
equal Equal is = refl
equal _ is = absurd cc

pub returns-then-ne-clause-none : goal.returns-then-ne-clause-none
returns-then-ne-clause-none c =
    let last = c.in_ok-last.field-0.now in
    let key = c.args.key.now in
    let greater = after (key_cmp key last.0)
    (ap not (sym (matches_eq-law key last.0)) ∙ sym c.ne.ensures ∙ c.if-ne.true)
    (c.requires.after last (sym c.in_ok-last.ensures)) in
    (refl, above_by_last key [] c.args.run.now last c.requires.ordered (sym c.in_ok-last.ensures) greater)

pub returns-clause-some : goal.returns-clause-some
returns-clause-some c =
    let last = c.in_ok-last.field-0.now in
    let key = c.args.key.now in
    let same = equal (key_cmp key last.0)
    (ap not (sym (matches_eq-law key last.0)) ∙ sym c.ne.ensures ∙ c.if-ne.false) in
    one_last c.args.run.now c.pop.new.self (c.in_ok-set.field-0-0, c.in_ok-set.set) key last.1
    c.in_ok-set.ensures.items
    (sym c.in_ok-last.ensures ∙ ap (λ (k : RrKey). Some (k, last.1)) (sym (key_cmp-exact key last.0 same)))
