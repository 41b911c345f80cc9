-- When questions are equal.
use Rattle.std.proofs.Common.{◌≡◌, rules}
use Rattle.std.specs.Prelude.{IsTrue, ◌↔◌}
use Rattle.std.specs.Bool.{Decides}
use Rattle.std.specs.Cmp.{booleans_Decides}
use Rattle.base.specs.names.NameOrder.{same_name}
use Rattle.base.specs.contracts.dns_class.DNSClassPartialEq.TheImpl as class_eq
use Rattle.base.specs.contracts.record_type.RecordTypePartialEq.TheImpl as type_eq
use Rattle.base.specs.declared.dns_class.DNSClass.{DNSClass}
use Rattle.base.specs.declared.record_type.RecordType.{RecordType}
use Rattle.op.specs.contracts.query.QueryPartialEq.TheImpl as query_eq
use Rattle.op.specs.declared.query.Query.{Query}
use Rattle.op.proofs.equality.Equals.{both_Decides}

classes_Decide : (a b : DNSClass) → Decides ((class_eq.ghosts).eq a b) (a ≡ b)
classes_Decide = search rules

types_Decide : (a b : RecordType) → Decides ((type_eq.ghosts).eq a b) (a ≡ b)
types_Decide = search rules

pub equal_is : (a b : Query)
    → IsTrue ((query_eq.ghosts).eq a b) ↔ (IsTrue (same_name a.name b.name) × (a.query_type ≡ b.query_type)
    × (a.query_class ≡ b.query_class) × (a.mdns_unicast_response ≡ b.mdns_unicast_response))
equal_is a b =
    let names : Decides (same_name a.name b.name) (IsTrue (same_name a.name b.name)) = (λ h. h, λ h. h) in
    let parts = both_Decides _ _ names (both_Decides _ _ (types_Decide a.query_type b.query_type)
    (both_Decides _ _ (classes_Decide a.query_class b.query_class)
    (booleans_Decides a.mdns_unicast_response b.mdns_unicast_response))) in
    (λ h. let p = parts.0 h in (p.0, p.1.0, p.1.1.0, p.1.1.1), λ f. parts.1 (f.0, (f.1, (f.2, f.3))))
