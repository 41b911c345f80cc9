use Rattle.std.proofs.Common.{rules, ◌≡◌, ◌<◌, ◌∙◌, ℕ, List, length, ap, sym, arith}
use Rattle.base.specs.names.Labels.{labels_of}
use Rattle.base.specs.writing.SaysName.{found_as, none_found}
use Rattle.base.specs.writing.State.{Stored}
use Rattle.base.specs.writing.Suffixes.{cells_of, found_at, offset_in}
use Rattle.base.specs.writing.Written.{found_in}
use Rattle.base.proofs.writing.SuffixLemmas.{found_near, found_none, found_some, order_first}
use Rattle.base.proofs.wire.suffix_table.SuffixTable.find.Goals as goal

pub returns-in-Some-clause-value : goal.returns-in-Some-clause-value
returns-in-Some-clause-value c =
    let inside = c.self.inside in
    sym (ap (λ (ts : List Stored). found_in ts (labels_of c.args.wire.now)) (sym c.self.view_is)
    ∙ found_some inside.first inside.others.items _ _ (sym c.in-Some.ensures.value))

pub returns-in-Some-clause-found : goal.returns-in-Some-clause-found
returns-in-Some-clause-found c = found_as _ _ (sym (returns-in-Some-clause-value c))

pub returns-then-is_empty-clause-value : goal.returns-then-is_empty-clause-value
returns-then-is_empty-clause-value c =
    let inside = c.self.inside in
    let none : length inside.others.items ≡ 0 = search rules in
    sym (ap (λ (ts : List Stored). found_in ts (labels_of c.args.wire.now)) (sym c.self.view_is)
    ∙ found_none inside.first inside.others.items _ (sym c.in_default.ensures.value)
    ∙ none_found inside.others.items _ (λ k d there. absurd (omega (arith, none))))

pub returns-then-is_empty-clause-found : goal.returns-then-is_empty-clause-found
returns-then-is_empty-clause-found c = found_as _ _ (sym (returns-then-is_empty-clause-value c))

-- what the cells and the index find
found_other : (c : goal.After-find_other)
    → c.find_other.result ≡ found_in c.self.inside.others.items (labels_of c.args.wire.now)
found_other c =
    let inside = c.self.inside in
    let wire = c.args.wire.now in
    c.find_other.ensures
    ∙ ap (λ (ts : List Stored). found_at ts (offset_in inside.index wire) (labels_of wire)
    (cells_of c.deref.result.now wire)) c.deref-2.ensures.value
    ∙ ap (λ (cells : List ℕ). found_at inside.others.items (offset_in inside.index wire) (labels_of wire)
    (cells_of cells wire)) c.deref.ensures.value
    ∙ ap (λ (bytes : List ℕ). found_at inside.others.items (offset_in inside.index bytes) (labels_of wire)
    (cells_of inside.cells.items bytes)) (sym c.requires.whole)
    ∙ c.self.invariant.finds (labels_of wire)

pub returns-clause-near : goal.returns-clause-near
returns-clause-near c =
    found_near c.self.inside.others.items (labels_of c.args.wire.now) _ c.self.invariant.near (found_other c)

pub find-requires-clause-order : goal.find-requires-clause-order
find-requires-clause-order c = order_first c.self.inside.first c.self.inside.others.items c.self.invariant.order

pub find_other-requires-clause-made : goal.find_other-requires-clause-made
find_other-requires-clause-made c =
    let some : 0 < length c.self.inside.others.items = search rules in
    omega (arith, c.self.invariant.made some, ap length c.deref.ensures.value)

pub returns-clause-value : goal.returns-clause-value
returns-clause-value c =
    let inside = c.self.inside in
    found_other c ∙ sym (ap (λ (ts : List Stored). found_in ts (labels_of c.args.wire.now)) (sym c.self.view_is)
    ∙ found_none inside.first inside.others.items _ (sym c.in_default.ensures.value))

pub returns-clause-found : goal.returns-clause-found
returns-clause-found c = found_as _ _ (sym (returns-clause-value c))
