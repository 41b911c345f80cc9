-- When records are equal, and how they are ordered.
use Rattle.std.specs.Prelude.{Bool}
use Rattle.std.specs.Ordering.{eq_of_both, nat_cmp, on, then_cmp}
use Rattle.std.specs.declared.cmp.Ordering.{Ordering}
use Rattle.base.specs.DNSClass.{class_cmp}
use Rattle.base.specs.names.NameOrder.{name_cmp, same_name}
use Rattle.base.specs.RecordType.{type_cmp}
use Rattle.base.specs.contracts.dns_class.DNSClassPartialEq.TheImpl as class_eq
use Rattle.base.specs.declared.dns_class.DNSClass.{DNSClass}
use Rattle.base_data.specs.Kinds.{type_of_data}
use Rattle.base_data.specs.DataOrder.{data_cmp}
use Rattle.base_data.specs.declared.rdata.RData.{RData}
use Rattle.rr.specs.declared.record.Record.{Record}

-- whether classes are the same
abbrev pub same_class : DNSClass → DNSClass → Bool
same_class = (class_eq.ghosts).eq

-- Whether records have the same name, letters in either case, the same class, and data that is equal in this sense. TTL
-- and cache-flush bit are not looked at (RFC 2136, 1.1.1).
abbrev pub same_record : {R : Type 0} → (R → R → Bool) → Record R → Record R → Bool
same_record same =
    eq_of_both (on (λ r. r.name) same_name)
    (eq_of_both (on (λ r. r.dns_class) same_class) (on (λ r. r.rdata) same))

-- the order: by name, type, class, TTL and data in turn
abbrev pub record_cmp : Record RData → Record RData → Ordering
record_cmp =
    then_cmp (on (λ r. r.name) name_cmp) (then_cmp (on (λ r. type_of_data r.rdata) type_cmp)
    (then_cmp (on (λ r. r.dns_class) class_cmp)
    (then_cmp (on (λ r. r.ttl) nat_cmp) (on (λ r. r.rdata) data_cmp))))
