-- Which records the canonical order ties.
use Rattle.std.proofs.Common.{◌≡◌, Bool, ap, sym, ◌∙◌, rules}
use Rattle.std.specs.Prelude.{IsTrue, ◌↔◌}
use Rattle.std.proofs.lemmas.Map.Lookups.{exact_unsigned}
use Rattle.std.specs.Cmp.{Equal-is, nat_cmp_total}
use Rattle.std.specs.Cmp.Rules.{comparing}
use Rattle.std.specs.Ordering.{is_eq, nat_cmp}
use Rattle.std.specs.declared.cmp.Ordering.{Ordering}
use Rattle.std.specs.declared.cmp.Ordering.TheVariants.{Equal}
use Rattle.base.specs.DNSClass.{class_cmp}
use Rattle.base.specs.names.NameOrder.{folded, name_cmp, same_name}
use Rattle.base.specs.names.NameOrderLaws.{same_by-tie}
use Rattle.base.specs.RecordType.{type_cmp}
use Rattle.base.specs.declared.dns_class.DNSClass.{DNSClass}
use Rattle.base_data.specs.Kinds.{KeptData, type_of_data}
use Rattle.base_data.specs.DataOrder.{data_cmp}
use Rattle.base_data.proofs.DataTies.{data_ties}
use Rattle.base_data.proofs.SameData.{then_tied, tied_same, types_tied}
use Rattle.base_data.specs.contracts.rdata.RDataPartialEq.TheImpl.{ghosts as equality}
use Rattle.base_data.specs.declared.rdata.RData.{RData}
use Rattle.rr.specs.RecordOrder.{record_cmp}
use Rattle.rr.specs.RecordOrderLaws.{class_cmp-total, type_cmp-total}
use Rattle.rr.specs.declared.record.Record.{Record}

-- what is equal as the order answers, is so
tied_as : (same : Bool) (o : Ordering) → same ≡ is_eq o → (o ≡ Equal) ↔ IsTrue same
tied_as same o tie = (λ h. tie ∙ ap is_eq h, λ h. (Equal-is o).0 (sym tie ∙ h))

classes_tied : (a b : DNSClass) → class_cmp a b ≡ Equal → a ≡ b
classes_tied = search (comparing, rules)

pub records_tied : (a b : Record RData) → KeptData a.rdata → KeptData b.rdata → (record_cmp a b ≡ Equal)
    ↔ (IsTrue (same_name a.name b.name) × (type_of_data a.rdata ≡ type_of_data b.rdata) × (a.dns_class ≡ b.dns_class)
    × (a.ttl ≡ b.ttl) × IsTrue (equality.eq a.rdata b.rdata))
records_tied a b fits_a fits_b =
    let names = tied_as (same_name a.name b.name) (name_cmp a.name b.name) (same_by-tie folded a.name b.name) in
    let types = tied_same type_cmp-total types_tied (type_of_data a.rdata) (type_of_data b.rdata) in
    let classes = tied_same class_cmp-total classes_tied a.dns_class b.dns_class in
    let ttls = tied_same nat_cmp_total exact_unsigned a.ttl b.ttl in
    let datas = data_ties a.rdata b.rdata fits_a fits_b in
    let first = then_tied (name_cmp a.name b.name) _ in
    let second = then_tied (type_cmp (type_of_data a.rdata) (type_of_data b.rdata)) _ in
    let third = then_tied (class_cmp a.dns_class b.dns_class) _ in
    let fourth = then_tied (nat_cmp a.ttl b.ttl) (data_cmp a.rdata b.rdata) in (
      λ h.
          let p = first.0 h in
          let q = second.0 p.1 in
          let r = third.0 q.1 in
          let s = fourth.0 r.1 in
          (names.0 p.0, types.0 q.0, classes.0 r.0, ttls.0 s.0, datas.0 s.1),
      λ f. first.1 (names.1 f.0, second.1 (types.1 f.1, third.1 (classes.1 f.2, fourth.1 (ttls.1 f.3, datas.1 f.4)))),
    )
