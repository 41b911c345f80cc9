-- Equality of records is an equivalence, and their order is total.
use Rattle.std.specs.Prelude.{Bool}
use Rattle.std.specs.Cmp.{IsEquivalence, IsTotalOrder, and_equiv, nat_cmp_total, on_equiv, on_total, then_total}
use Rattle.base.specs.DNSClass.{class_cmp, class_number, class_rank}
use Rattle.base.specs.names.NameOrder.{folded}
use Rattle.base.specs.names.NameOrderLaws.{cmp_by-total, same_by-equiv}
use Rattle.base.specs.RecordType.{type_cmp, type_number, type_rank}
use Rattle.base.specs.contracts.dns_class.DNSClassEq.TheImpl.Laws.{laws-law as class_laws}
use Rattle.base_data.specs.Kinds.{type_of_data}
use Rattle.base_data.proofs.Comparing.{data_cmp-total}
use Rattle.rr.specs.RecordOrder.{same_class, same_record, record_cmp}

-- being the same class is an equivalence
pub same_class-equiv : IsEquivalence same_class
same_class-equiv = class_laws

-- being the same record is an equivalence, where being the same data is one
pub same_record-equiv : {R : Type 0} {same : R → R → Bool} → IsEquivalence same
    → IsEquivalence (same_record same)
same_record-equiv equiv =
    and_equiv (on_equiv (λ r. r.name) (same_by-equiv folded))
    (and_equiv (on_equiv (λ r. r.dns_class) same_class-equiv) (on_equiv (λ r. r.rdata) equiv))

-- the order of types is total
pub type_cmp-total : IsTotalOrder type_cmp
type_cmp-total =
    then_total (on_total type_number nat_cmp_total) (on_total type_rank nat_cmp_total)

-- the order of classes is total
pub class_cmp-total : IsTotalOrder class_cmp
class_cmp-total =
    then_total (on_total class_number nat_cmp_total) (on_total class_rank nat_cmp_total)

-- the order of records is total
pub record_cmp-total : IsTotalOrder record_cmp
record_cmp-total =
    then_total (on_total (λ r. r.name) (cmp_by-total folded))
    (then_total (on_total (λ r. type_of_data r.rdata) type_cmp-total)
    (then_total (on_total (λ r. r.dns_class) class_cmp-total)
    (then_total (on_total (λ r. r.ttl) nat_cmp_total) (on_total (λ r. r.rdata) data_cmp-total))))
