use Rattle.authority.proofs.SourceLemmas.{source_here}
use Rattle.authority.proofs.WayLemmas.{cut_found, no_cut}
use Rattle.authority.proofs.found.lookup.Goals as goal
use Rattle.authority.specs.Found.{IsCutSet, IsFound}
use Rattle.authority.specs.Lookup.{Finding, at_source, cut_over, lookup, source}
use Rattle.base.specs.names.Labels.{NameValue}
use Rattle.base.specs.declared.dns_class.DNSClass.{DNSClass}
use Rattle.op_use.specs.Applying.{zone_of_map}
use Rattle.std.specs.Option.{option_copied}
use Rattle.std.proofs.Common.{Some, ap, subst, sym, ◌∙◌}
use Rattle.std.proofs.lemmas.Bool.{cond-true}
use Rattle.std.proofs.lemmas.Result.{IfOk-weaker}

pub returns-in-Some-clause-found : goal.returns-in-Some-clause-found
returns-in-Some-clause-found c = λ class.
    let z = zone_of_map c.args.origin.now class c.args.sets.now in
    let t = c.args.record_type in
    let n = c.args.name.now in
    let cut = cut_found c.args.sets.now (cut_over z t n) c.in-Some.servers.now (at_source z t n (source z n))
    (subst (λ o. IsCutSet c.args.sets.now (cut_over z t n) (option_copied o)) c.in-Some.is
    (c.in_ok-servers.ensures.value class)) in
    (cut.0, cond-true _ _ _ (sym c.is_within.ensures ∙ c.if-not-is_within.false) ∙ cut.1, cut.2)

pub returns-then-own-clause-found : goal.returns-then-own-clause-found
returns-then-own-clause-found c =
    let origin = c.args.origin.now in
    let m = c.args.sets.now in
    let t = c.args.record_type in
    let n = c.args.name.now in
    IfOk-weaker c.found_at.result (λ found. (class : DNSClass) (origin n : NameValue) → IsFound class m n found
    (at_source (zone_of_map origin class m) t n (Some c.args.name.now)))
    (λ found. (class : DNSClass) → IsFound class m n found (lookup (zone_of_map origin class m) t n))
    (λ found is class.
    let z = zone_of_map origin class m in
    subst (λ (f : Finding). IsFound class m n found f)
    (sym (cond-true _ _ _ (sym c.is_within.ensures ∙ c.if-not-is_within.false)
    ∙ no_cut m (cut_over z t n) (at_source z t n (source z n))
    (subst (λ o. IsCutSet m (cut_over z t n) (option_copied o)) c.in_default.is (c.in_ok-servers.ensures.value class))
    ∙ ap (at_source z t n) (source_here origin m class n (sym c.in_ok-own.ensures.value.0 ∙ c.if-own.true))))
    (is class origin n)) c.found_at.ensures.found
