use Rattle.std.proofs.Common.{ap, sym, ◌∙◌, ◌≡◌}
use Rattle.base.specs.RrKey.{key_of}
use Rattle.base.specs.declared.dns_class.DNSClass.TheVariants as classes
use Rattle.base.specs.declared.record_type.RecordType.TheVariants as types
use Rattle.capi.proofs.HandleLemmas.{copied}
use Rattle.op_use.proofs.WholeSteps.{map_copy}
use Rattle.capi.proofs.zone_handle.holding.copy.Goals as goal

pub invariant_of-result : goal.invariant_of-result
invariant_of-result c =
    let soa : c.in_ok-clone-3.field-0 ≡ c.args.zone.now.soa = λ i. record {
      name = c.in_ok-clone-3.ensures.cases.0 i;
      record_type = c.in_ok-clone-3.ensures.cases.1 i;
    } in
    record {
      soa_is = soa ∙ c.args.zone.now.soa_is
          ∙ ap (λ o. key_of o types.SOA) (sym c.in_ok-clone.ensures.cases);
      kept = map_copy c.args.zone.now.origin classes.IN c.args.zone.now.sets c.in_ok-clone-2.field-0
          c.in_ok-clone-2.field-0
          (copied c.args.zone.now.sets c.in_ok-clone-2.field-0 c.in_ok-clone-2.ensures.cases) c.args.zone.now.kept;
    }

pub returns : goal.returns
returns c = λ i. (
  c.in_ok-clone.ensures.cases i,
  copied c.args.zone.now.sets c.in_ok-clone-2.field-0 c.in_ok-clone-2.ensures.cases i,
)
