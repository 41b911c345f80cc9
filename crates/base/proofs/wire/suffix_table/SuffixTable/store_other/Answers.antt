use Rattle.std.proofs.Common.{rules, arith, ◌≡◌, ◌≤◌, ◌∙◌, ◌+◌, ◌-◌, ◌++◌, ◌∷◌, [], ℕ, suc, List, sym, ap, take, drop}
use Rattle.std.proofs.Common.{length, refl}
use Rattle.base.specs.names.Labels.{labels_of, wire_of}
use Rattle.base.specs.writing.State.{Stored}
use Rattle.base.specs.writing.Suffixes.{cell_of, cells_of, index_key, taken}
use Rattle.base.proofs.writing.CellLemmas.{the_cells}
use Rattle.base.proofs.writing.SuffixLemmas.{few, order_after}
use Rattle.base.proofs.writing.TableLemmas.{IsTable-cell, IsTable-made, IsTable-push, cells_len}
use Rattle.base.proofs.wire.suffix_table.SuffixTable.store_other.Goals as goal

pub invariant_of-self : goal.invariant_of-self
invariant_of-self c = IsTable-made c.make_cells.new.cells.items c.make_cells.ensures.same c.self.invariant

pub invariant_of-self-in_err-reserve : goal.invariant_of-self-in_err-reserve
invariant_of-self-in_err-reserve c = rw c.in_err-reserve.ensures.items
    (IsTable-made c.make_cells.new.cells.items c.make_cells.ensures.same c.self.invariant)

-- there are fewer suffixes than two bytes can count
pub overflow_cast-len : goal.overflow_cast-len
overflow_cast-len c =
    let inside = c.self.inside in
    let order = order_after inside.first inside.others.items c.self.invariant.order in
    omega (
      arith,
      few inside.others.items order c.self.invariant.near,
      c.len.ensures,
      ap length c.in_ok-reserve.ensures.items,
    )

pub invariant_of-self-in_err-key : goal.invariant_of-self-in_err-key
invariant_of-self-in_err-key c = rw c.in_ok-reserve.ensures.items
    (IsTable-made c.make_cells.new.cells.items c.make_cells.ensures.same c.self.invariant)

pub invariant_of-self-in_err-insert : goal.invariant_of-self-in_err-insert
invariant_of-self-in_err-insert c = rw (c.in_err-insert.ensures.err, c.in_ok-reserve.ensures.items)
    (IsTable-made c.make_cells.new.cells.items c.make_cells.ensures.same c.self.invariant)

pub invariant_of-self-in-Some : goal.invariant_of-self-in-Some
invariant_of-self-in-Some c =
    let t : Stored = record { labels = labels_of c.args.wire.now; offset = c.args.at } in
    let others = c.self.inside.others.items in
    let cells = c.make_cells.new.cells.items in
    let start = c.cell_of-start.result in
    let made = c.in_ok-make_cells.ensures.ok in
    let whole : c.args.wire.now ≡ wire_of t.labels = sym c.requires.wire.whole in
    let at : start ≡ cell_of (wire_of t.labels) = c.cell_of-start.ensures.value ∙ ap cell_of whole in
    let same : take (start + 8 - start) (drop start c.deref.result.now) ≡ cells_of cells (wire_of t.labels) =
    ap (λ (xs : List ℕ). take (start + 8 - start) (drop start xs)) c.deref.ensures.value
    ∙ the_cells cells (wire_of t.labels) start at in
    let fits : cell_of (wire_of t.labels) + 8 ≤ length cells = omega (arith, at, made, c.cell_of-start.ensures.below) in
    let grown : c.push_reserved.new.self.items ≡ others ++ t ∷ [] = search rules in
    let number : c.len.result + 1 ≡ suc (length others) =
    omega (arith, c.len.ensures, ap length c.in_ok-reserve.ensures.items) in
    rw (grown, number) (
    IsTable-cell t (IsTable-made cells c.make_cells.ensures.same c.self.invariant) c.requires.near
    (rw c.self.view_is c.requires.absent) (rw c.self.view_is c.requires.later) (start + c.in-Some.way)
    (omega (arith, at, c.in-Some.ensures.0, ap taken same))
    (omega (
      arith,
      c.in-Some.ensures.0,
      c.in-Some.ensures.1,
      ap taken same,
      ap length same,
      cells_len cells (wire_of t.labels) fits,
    )) fits made
    )

pub invariant_of-self-2 : goal.invariant_of-self-2
invariant_of-self-2 c =
    let t : Stored = record { labels = labels_of c.args.wire.now; offset = c.args.at } in
    let cells = c.make_cells.new.cells.items in
    let start = c.cell_of-start.result in
    let made = c.in_ok-make_cells.ensures.ok in
    let whole : c.args.wire.now ≡ wire_of t.labels = sym c.requires.wire.whole in
    let at : start ≡ cell_of (wire_of t.labels) = c.cell_of-start.ensures.value ∙ ap cell_of whole in
    let same : take (start + 8 - start) (drop start c.deref.result.now) ≡ cells_of cells (wire_of t.labels) =
    ap (λ (xs : List ℕ). take (start + 8 - start) (drop start xs)) c.deref.ensures.value
    ∙ the_cells cells (wire_of t.labels) start at in
    let fits : cell_of (wire_of t.labels) + 8 ≤ length cells = omega (arith, at, made, c.cell_of-start.ensures.below) in
    let grown : c.push_reserved-2.new.self.items ≡ c.self.inside.others.items ++ t ∷ [] = search rules in
    rw grown (
    IsTable-push c.self.inside.index c.insert.new.self t (c.in_ok-key.ensures ∙ ap index_key whole)
    c.in_ok-insert.ensures.updates (IsTable-made cells c.make_cells.ensures.same c.self.invariant) refl
    c.requires.near (rw c.self.view_is c.requires.absent) (rw c.self.view_is c.requires.later)
    (omega (arith, c.in_default.ensures, ap taken same, ap length same, cells_len cells (wire_of t.labels) fits))
    fits made
    )
