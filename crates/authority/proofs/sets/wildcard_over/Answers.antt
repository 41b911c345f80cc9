use Rattle.authority.proofs.SourceLemmas.{IsOver, over_ends, over_goes_on}
use Rattle.authority.proofs.sets.wildcard_over.Goals as goal
use Rattle.authority.specs.Lookup.{encloser, encloses, wildcard_below}
use Rattle.base.specs.names.Labels.{NameValue}
use Rattle.base.specs.names.Parents.{parent, wildcard_of}
use Rattle.base.specs.declared.dns_class.DNSClass.{DNSClass}
use Rattle.op_use.specs.Applying.{zone_of_map}
use Rattle.std.proofs.Common.{ap, false, subst, sym, true, ◌∙◌, ◌≡◌}
use Rattle.std.proofs.lemmas.Result.{IfOk-weaker}

pub returns-then-branch-clause-value : goal.returns-then-branch-clause-value
returns-then-branch-clause-value c =
    let here : (class : DNSClass) → encloses (zone_of_map c.args.origin.now class c.args.sets.now)
    (parent c.loop-closer.closer) ≡ true
    = λ class. ap (encloses (zone_of_map c.args.origin.now class c.args.sets.now))
    (sym c.in_ok-above.ensures.value) ∙ sym (c.in_ok-encloses.ensures.value class) ∙ c.if-branch.true in
    IfOk-weaker c.into_wildcard.result (λ n. n ≡ wildcard_of c.loop-closer.closer)
    (λ n. (class : DNSClass) → n ≡ wildcard_below (encloser (zone_of_map c.args.origin.now class c.args.sets.now)
    (parent c.args.name.now)))
    (λ n is class. is ∙ over_ends c.args.origin.now c.args.sets.now c.args.name.now c.loop-closer.closer
    c.loop-closer.invariant here class) c.into_wildcard.ensures.value

pub loop-closer-preserved : goal.loop-closer-preserved
loop-closer-preserved c =
    let none : (class : DNSClass) → encloses (zone_of_map c.args.origin.now class c.args.sets.now)
    (parent c.loop-closer.closer) ≡ false
    = λ class. ap (encloses (zone_of_map c.args.origin.now class c.args.sets.now))
    (sym c.in_ok-above.ensures.value) ∙ sym (c.in_ok-encloses.ensures.value class) ∙ c.if-branch.false in
    subst (λ (n : NameValue). IsOver c.args.origin.now c.args.sets.now c.args.name.now n)
    (sym c.in_ok-above.ensures.value)
    (over_goes_on c.args.origin.now c.args.sets.now c.args.name.now c.loop-closer.closer c.loop-closer.invariant none)
