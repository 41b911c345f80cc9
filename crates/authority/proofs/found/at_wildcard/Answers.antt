use Rattle.authority.proofs.SourceLemmas.{source_of, source_of_origin}
use Rattle.authority.proofs.found.at_wildcard.Goals as goal
use Rattle.authority.specs.Found.{IsFound}
use Rattle.authority.specs.Lookup.{at_source, source}
use Rattle.base.specs.names.Labels.{NameValue}
use Rattle.base.specs.declared.dns_class.DNSClass.{DNSClass}
use Rattle.op_use.specs.Applying.{zone_of_map}
use Rattle.std.proofs.Common.{None, Some, ap, subst, sym, ◌∙◌}
use Rattle.std.proofs.lemmas.Result.{IfOk-weaker}
use Rattle.std.specs.Prelude.{Option, cond}

pub returns-then-eq-clause-found : goal.returns-then-eq-clause-found
returns-then-eq-clause-found c = λ class.
    let n = c.args.name.now in
    ap (at_source (zone_of_map c.args.origin.now class c.args.sets.now) c.args.record_type n)
    (source_of_origin c.args.origin.now c.args.sets.now class n c.requires.none (sym c.eq.ensures ∙ c.if-eq.true))

pub returns-then-there-clause-found : goal.returns-then-there-clause-found
returns-then-there-clause-found c =
    let m = c.args.sets.now in
    let n = c.args.name.now in
    let t = c.args.record_type in
    let wildcard = c.in_ok-wildcard.wildcard in
    IfOk-weaker c.found_at.result (λ found. (class : DNSClass) (origin n : NameValue) → IsFound class m n found
    (at_source (zone_of_map origin class m) t n (Some wildcard)))
    (λ found. (class : DNSClass) → IsFound class m n found (at_source (zone_of_map c.args.origin.now class m) t n
    (source (zone_of_map c.args.origin.now class m) n)))
    (λ found is class. subst (λ (s : Option NameValue). IsFound class m n found
    (at_source (zone_of_map c.args.origin.now class m) t n s))
    (sym (source_of c.args.origin.now m class n wildcard c.requires.none (sym c.eq.ensures ∙ c.if-eq.false)
    (c.in_ok-wildcard.ensures.value class) c.in_ok-there.there.exists c.in_ok-there.ensures.value.0
    ∙ ap (λ b. cond b (Some wildcard) None) c.if-there.true)) (is class c.args.origin.now n)) c.found_at.ensures.found

pub returns-clause-found : goal.returns-clause-found
returns-clause-found c = λ class.
    let n = c.args.name.now in
    let wildcard = c.in_ok-wildcard.wildcard in
    ap (at_source (zone_of_map c.args.origin.now class c.args.sets.now) c.args.record_type n)
    (source_of c.args.origin.now c.args.sets.now class n wildcard c.requires.none (sym c.eq.ensures ∙ c.if-eq.false)
    (c.in_ok-wildcard.ensures.value class) c.in_ok-there.there.exists c.in_ok-there.ensures.value.0
    ∙ ap (λ b. cond b (Some wildcard) None) c.if-there.false)
