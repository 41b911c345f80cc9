use Rattle.std.specs.Prelude.{Some}
use Rattle.std.proofs.Common.{◌≡◌, ◌≢◌, ◌<◌, ◌≤◌, ◌∙◌, ◌+◌, ◌-◌, ◌∷◌, ℕ, List, get_or, length, take, drop, refl, sym}
use Rattle.std.proofs.Common.{ap, arith}
use Rattle.std.specs.Cmp.Lexicographic.{bytes_decides}
use Rattle.std.proofs.lemmas.Bool.{false≢true}
use Rattle.std.proofs.lemmas.List.{drop_all, drop_more, get_or_default}
use Rattle.base.specs.names.Labels.{labels_of, wire_of}
use Rattle.base.specs.writing.State.{Stored}
use Rattle.base.specs.writing.Suffixes.{cells_of, found_at, offset_in}
use Rattle.base.proofs.names.LabelLemmas.{labels_of_is}
use Rattle.base.proofs.writing.CellLemmas.{cell_hits, cell_passes, nothing, the_cells}
use Rattle.base.proofs.wire.suffix_table.find_other.Goals.{else-place-others-via-then-place-others+else-eq}
use Rattle.base.proofs.wire.suffix_table.find_other.Goals.{else-place-others-via-else-place-others}
use Rattle.base.proofs.wire.suffix_table.find_other.Goals as goal

pub loop-cell-init : goal.loop-cell-init
loop-cell-init c = refl

pub returns-then-place-eq0 : goal.returns-then-place-eq0
returns-then-place-eq0 c =
    let start = c.cell_of-start.result in
    let cells = take (start + 8 - start) (drop start c.args.cells.now) in
    let i = c.loop-cell.cell-index in
    let same = the_cells c.args.cells.now c.args.wire.now start c.cell_of-start.ensures.value in
    let find = found_at c.args.others.now (offset_in c.args.index.now c.args.wire.now) (labels_of c.args.wire.now) in
    sym (c.loop-cell.invariant ∙ ap (λ (cs : List ℕ). find (drop i cs)) (sym same)
    ∙ ap find (drop_more cells i 0 c.loop-cell-test.true)
    ∙ ap (λ (x : ℕ). find (x ∷ drop (i + 1) cells)) (sym c.from-place.ensures ∙ c.if-place-eq0.true))

pub returns-then-eq : goal.returns-then-eq
returns-then-eq c =
    let start = c.cell_of-start.result in
    let others = c.args.others.now in
    let wire = c.args.wire.now in
    let cells = take (start + 8 - start) (drop start c.args.cells.now) in
    let i = c.loop-cell.cell-index in
    let x = c.from-place.result in
    let d = c.index-others-place-then-eq.result in
    let same = the_cells c.args.cells.now wire start c.cell_of-start.ensures.value in
    let find = found_at others (offset_in c.args.index.now wire) (labels_of wire) in
    let bytes = (bytes_decides c.as_wire.result.now wire).0 (sym c.eq.ensures ∙ c.if-eq.true) in
    let u = c.index-others-place.result in
    let labels : u.labels ≡ labels_of wire = sym (labels_of_is wire u.labels (sym bytes ∙ c.as_wire.ensures.value)) in
    let at : get_or others (x - 1) d ≡ d = sym c.index-others-place-then-eq.is in
    let one : get_or others (x - 1) u ≡ u = sym c.index-others-place.is in
    let inside : x - 1 < length others = omega (arith, c.if-place-eq0.false, c.if-place-others.true) in
    let is : d ≡ u = sym at ∙ get_or_default others (x - 1) d u inside ∙ one in
    sym (c.loop-cell.invariant ∙ ap (λ (cs : List ℕ). find (drop i cs)) (sym same)
    ∙ ap find (drop_more cells i 0 c.loop-cell-test.true)
    ∙ ap (λ (y : ℕ). find (y ∷ drop (i + 1) cells)) (sym c.from-place.ensures)
    ∙ cell_hits others (offset_in c.args.index.now wire) (labels_of wire) (drop (i + 1) cells) x d
    (omega (arith, c.if-place-eq0.false)) c.if-place-others.true (ap (λ (t : Stored). t.labels) (at ∙ is) ∙ labels)
    ∙ ap (λ (t : Stored). Some t.offset) at ∙ ap Some (sym c.offset.ensures))

pub loop-cell-preserved : goal.loop-cell-preserved
loop-cell-preserved c =
    let start = c.cell_of-start.result in
    let others = c.args.others.now in
    let wire = c.args.wire.now in
    let cells = take (start + 8 - start) (drop start c.args.cells.now) in
    let i = c.loop-cell.cell-index in
    let x = c.from-place.result in
    let same = the_cells c.args.cells.now wire start c.cell_of-start.ensures.value in
    let find = found_at others (offset_in c.args.index.now wire) (labels_of wire) in
    let goes : (d : Stored) → (x ≤ length others → (get_or others (x - 1) d).labels ≢ labels_of wire)
    → find (drop i (cells_of c.args.cells.now wire)) ≡ find (drop (i + 1) (cells_of c.args.cells.now wire)) =
    λ d other. ap (λ (cs : List ℕ). find (drop i cs)) (sym same)
    ∙ ap find (drop_more cells i 0 c.loop-cell-test.true)
    ∙ ap (λ (y : ℕ). find (y ∷ drop (i + 1) cells)) (sym c.from-place.ensures)
    ∙ cell_passes others (offset_in c.args.index.now wire) (labels_of wire) (drop (i + 1) cells) x d
    (omega (arith, c.if-place-eq0.false)) other
    ∙ ap (λ (cs : List ℕ). find (drop (i + 1) cs)) same in
    c.loop-cell.invariant ∙ elim c.else-place-others.branch [
      | else-place-others-via-then-place-others+else-eq w ↦
          let u = w.index-others-place.result in
          goes u (λ inside is. false≢true (sym w.if-eq.false ∙ w.eq.ensures
          ∙ (bytes_decides w.as_wire.result.now wire).1 (w.as_wire.ensures.value
          ∙ ap wire_of (ap (λ (t : Stored). t.labels) w.index-others-place.is ∙ is) ∙ c.requires.wire.whole)))
      | else-place-others-via-else-place-others w ↦
          goes nothing (λ inside. absurd (omega (arith, inside, w.if-place-others.false)))
    ]

pub returns : goal.returns
returns c =
    let start = c.cell_of-start.result in
    let wire = c.args.wire.now in
    let cells = take (start + 8 - start) (drop start c.args.cells.now) in
    let same = the_cells c.args.cells.now wire start c.cell_of-start.ensures.value in
    let find = found_at c.args.others.now (offset_in c.args.index.now wire) (labels_of wire) in
    c.find_indexed.ensures ∙ sym (c.loop-cell.invariant
    ∙ ap (λ (cs : List ℕ). find (drop c.loop-cell.cell-index cs)) (sym same)
    ∙ ap find (drop_all c.loop-cell.cell-index cells (omega (arith, c.loop-cell-test.false))))
