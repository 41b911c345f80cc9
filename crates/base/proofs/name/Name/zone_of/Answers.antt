use Rattle.std.proofs.Common.{◌≡◌, ℕ, List, ◌++◌, ap, sym, ◌∙◌, subst, arith, drop}
use Rattle.std.specs.Prelude.{IsTrue, ◌↔◌}
use Rattle.base.specs.names.Labels.{AreLabels}
use Rattle.base.specs.names.NameOrder.{folded}
use Rattle.base.proofs.names.CompareLemmas.{AreLabels-drop, are_last_at, zone_test}
use Rattle.base.proofs.name.Name.zone_of.Goals as goal

pub same_in_any_case-requires-clause-left_labels :
    goal.same_in_any_case-requires-clause-left_labels
same_in_any_case-requires-clause-left_labels c =
    subst AreLabels (sym (c.past_labels.ensures.labels))
    (AreLabels-drop _ _ (subst AreLabels (sym c.as_wire.ensures.cut) c.as_wire.ensures.labels))

pub returns-then-count-others : goal.returns-then-count-others
returns-then-count-others c =
    let last : IsTrue c.same_in_any_case.result
    ↔ ((front : List (List ℕ)) × (folded c.args.other.now ≡ front ++ folded c.args.self.now)) =
    are_last_at _ _ _ _ _ _ (omega (
      arith,
      c.if-count-others.true,
      c.label_count-count.ensures,
      c.label_count-others.ensures,
    ))
    (c.past_labels.ensures.labels ∙ ap (drop _) c.as_wire.ensures.cut) c.as_wire-then-count-others.ensures.cut
    c.same_in_any_case.ensures in
    record { last_labels = last; test = zone_test c.args.self.now c.args.other.now c.same_in_any_case.result last }
