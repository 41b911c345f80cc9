use Rattle.std.proofs.Common.{◌≡◌, ◌≢◌, ℕ, ap, refl, ◌∙◌, drop, length, arith, length-drop, Option, Some, None}
use Rattle.std.specs.Option.{IfNone, IfSome, unwrap_or}
use Rattle.std.specs.Ordering.{bool_cmp, ordering_then}
use Rattle.std.specs.declared.cmp.Ordering.{Ordering}
use Rattle.std.specs.declared.cmp.Ordering.TheVariants.{Equal}
use Rattle.base.specs.names.Labels.{labels_of}
use Rattle.base.proofs.names.CompareLemmas.{name_cmp_is}
use Rattle.base.proofs.name.compare.NameOrd.cmp.Goals as goal

found_order : (found : Option Ordering) (order : Ordering) (m n : ℕ) → m ≡ n → IfSome found (λ o. (m ≡ n) × (o ≡ order))
    → IfNone found (m ≢ n) → unwrap_or found Equal ≡ order
found_order (Some o) order m n same some none = some.1
found_order None order m n same some none = absurd (none same)

pub returns : goal.returns
returns c =
    let mine = c.args.self.now in
    let others = c.args.other.now in
    let left : labels_of c.past_labels-after.result.now ≡ drop c.saturating_sub.result mine.labels =
    c.past_labels-after.ensures.labels ∙ ap (drop _) c.as_wire-left.ensures.cut in
    let right : labels_of c.past_labels-others_after.result.now ≡ drop c.saturating_sub-2.result others.labels =
    c.past_labels-others_after.ensures.labels ∙ ap (drop _) c.as_wire-right.ensures.cut in
    let flags : c.cmp-flags.result ≡ bool_cmp mine.absolute others.absolute =
    c.cmp-flags.ensures ∙ rw (c.is_fqdn.ensures, c.is_fqdn-2.ensures) refl in
    let same : length (labels_of c.past_labels-after.result.now) ≡ length
    (labels_of c.past_labels-others_after.result.now) =
    omega (
      arith,
      ap length left,
      ap length right,
      length-drop c.saturating_sub.result mine.labels,
      length-drop c.saturating_sub-2.result others.labels,
      c.saturating_sub.ensures,
      c.saturating_sub-2.ensures,
      c.label_count-count.ensures.count,
      c.label_count-others.ensures.count,
    ) in
    let order = found_order c.cmp_labels-2.result _ _ _ same c.cmp_labels-2.ensures.some c.cmp_labels-2.ensures.none in
    name_cmp_is mine others (record {
      count = c.label_count-count.ensures.count;
      other_count = c.label_count-others.ensures.count;
      last = left ∙ ap (λ (k : ℕ). drop k mine.labels) c.saturating_sub.ensures;
      other_last = right ∙ ap (λ (k : ℕ). drop k others.labels) c.saturating_sub-2.ensures;
    }) flags (c.unwrap_or.ensures ∙ order) c.cmp.ensures
    (c.then-3.ensures ∙ ap (λ (o : Ordering). ordering_then o c.cmp.result) c.then-2.ensures)
