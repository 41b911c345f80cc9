use Rattle.std.proofs.Common.{◌≡◌, ℕ, List, length, ap, sym, ◌∙◌}
use Rattle.std.specs.Cmp.Lexicographic.{bytes_decides}
use Rattle.base.specs.names.Labels.{labels_of}
use Rattle.base.proofs.names.CompareLemmas.{labels_cmp-same, labels_cmp-step, apart, longer, step_count, then_Equal}
use Rattle.base.specs.names.NameOrder.{folded_labels, labels_cmp}
use Rattle.base.proofs.name.compare.cmp_labels.Goals as goal

pub loop-x-init : goal.loop-x-init
loop-x-init c = record {
  whole = c.requires.left;
  other_whole = c.requires.right;
  same_count = λ same. same;
  count_kept = λ same. same;
  so_far = λ same. then_Equal (labels_cmp (folded_labels (labels_of c.args.left.now))
      (folded_labels (labels_of c.args.right.now)));
}

pub loop-x-preserved : goal.loop-x-preserved
loop-x-preserved c =
    let first = c.in-Some.ensures in
    let other = c.in-Some-first_label.ensures in
    let before = c.loop-x.invariant in
    record {
      whole = first.others;
      other_whole = other.others;
      same_count = λ same. before.same_count (longer first.labels other.labels same);
      count_kept = λ whole. step_count first.labels other.labels (before.count_kept whole);
      so_far = λ same. labels_cmp-step c.loop-x.order first.labels other.labels same c.cmp_label.ensures
          c.then-order.ensures
          ∙ before.so_far (longer first.labels other.labels same);
    }

pub returns-then-eq-clause-some : goal.returns-then-eq-clause-some
returns-then-eq-clause-some c =
    let first = c.in-Some.ensures in
    let other = c.in-Some-first_label.ensures in
    let before = c.loop-x.invariant in
    let xs = c.in-Some.xs.now in
    let ys = c.in-Some-first_label.ys.now in
    let equal : xs ≡ ys = (bytes_decides xs ys).0 (sym c.eq.ensures ∙ c.if-eq.true) in
    let same : length (labels_of xs) ≡ length (labels_of ys) = ap (λ (zs : List ℕ). length (labels_of zs)) equal in
    let longer = longer first.labels other.labels same in (
      before.same_count longer,
      labels_cmp-same (labels_of xs) (labels_of ys) _ _ (ap labels_of equal)
          (labels_cmp-step c.loop-x.order first.labels other.labels same c.cmp_label.ensures c.then-order.ensures
          ∙ before.so_far longer),
    )

pub returns-in_default-first_label-clause-none : goal.returns-in_default-first_label-clause-none
returns-in_default-first_label-clause-none c = λ whole.
    apart c.in-Some.ensures.labels c.in_default-first_label.ensures.labels (c.loop-x.invariant.count_kept whole)

pub returns-in-None-clause-some : goal.returns-in-None-clause-some
returns-in-None-clause-some c =
    let before = c.loop-x.invariant in
    let none = c.in_default.ensures.labels ∙ sym c.in-None.ensures.labels in
    let same = ap (λ (zs : List (List ℕ)). length zs) none in (
      before.same_count same,
      labels_cmp-same (labels_of c.loop-x.rest.now) (labels_of c.loop-x.others.now) _ _ none
          (before.so_far same),
    )

pub returns-in-Some-first_label-2-clause-none : goal.returns-in-Some-first_label-2-clause-none
returns-in-Some-first_label-2-clause-none c = λ whole.
    apart c.in-Some-first_label-2.ensures.labels c.in_default.ensures.labels (sym (c.loop-x.invariant.count_kept whole))
