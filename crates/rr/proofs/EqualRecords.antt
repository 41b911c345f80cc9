-- When records are equal.
use Rattle.std.proofs.Common.{◌≡◌, Bool, true, false, ◌&&◌, refl, rules}
use Rattle.std.specs.Prelude.{IsTrue, ◌↔◌}
use Rattle.std.specs.Bool.{Decides}
use Rattle.base.specs.names.NameOrder.{same_name}
use Rattle.base.specs.declared.dns_class.DNSClass.{DNSClass}
use Rattle.rr.specs.RecordOrder.{same_class, same_record}
use Rattle.rr.specs.declared.record.Record.{Record}

both_true : (x y : Bool) → IsTrue (x && y) ↔ (IsTrue x × IsTrue y)
both_true true y = (λ h. (refl, h), λ h. h.1)
both_true false y = (λ h. cc, λ h. h.0)

classes_Decide : (a b : DNSClass) → Decides (same_class a b) (a ≡ b)
classes_Decide = search rules

pub equal_is : {R : Type 0} (same : R → R → Bool) (a b : Record R)
    → IsTrue (same_record same a b) ↔ (IsTrue (same_name a.name b.name) × (a.dns_class ≡ b.dns_class)
    × IsTrue (same a.rdata b.rdata))
equal_is same a b =
    let all = both_true (same_name a.name b.name) (same_class a.dns_class b.dns_class && same a.rdata b.rdata) in
    let others = both_true (same_class a.dns_class b.dns_class) (same a.rdata b.rdata) in
    let class = classes_Decide a.dns_class b.dns_class in (
      λ h. let p = all.0 h in let q = others.0 p.1 in
          (p.0, class.0 q.0, q.1),
      λ f. all.1 (f.0, others.1 (class.1 f.1, f.2)),
    )
