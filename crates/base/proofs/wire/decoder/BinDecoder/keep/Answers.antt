use Rattle.std.proofs.Common.{◌++◌, sym, ap, ◌∙◌, subst, take, drop, refl}
use Rattle.std.proofs.lemmas.List.{length-take-le}
use Rattle.std.specs.FinSet as set
use Rattle.std.specs.Ordering.{nat_cmp}
use Rattle.base.specs.reading.Passing.{IsClosed}
use Rattle.base.specs.reading.Pointers.{AreKept, Cache, CanKeep, kept_after, targets_of}
use Rattle.base.specs.reading.Reader.{Reader}
use Rattle.base.proofs.reading.CountLemmas.{kept_are, not_kept, targets_inserted}
use Rattle.base.proofs.reading.PassLemmas.{closed_inserted}
use Rattle.base.proofs.reading.PieceLemmas.{piece_fits}
use Rattle.base.proofs.reading.TargetLemmas.{from_offset, passes_kept, whole_kept}
use Rattle.base.proofs.wire.decoder.BinDecoder.keep.Goals as goal

pub slice_bounds-insert-end : goal.slice_bounds-insert-end
slice_bounds-insert-end c =
    let buffer = c.self.inside.buffer.now in
    let can = subst (λ (r : Reader). CanKeep r c.args.target c.args.piece) (sym c.self.view_is) c.requires in
    rw (from_offset buffer _ c.args.target c.from.ensures)
    (sym (length-take-le c.args.piece.len (drop c.args.target buffer)
    (piece_fits can.stands)))

pub insert-requires-clause-new : goal.insert-requires-clause-new
insert-requires-clause-new c =
    not_kept c.self.inside.cache c.args.target
    (ap (λ (r : Reader). set.contains r.kept c.args.target) c.self.view_is ∙ c.requires.absent)

pub insert-requires-clause-short : goal.insert-requires-clause-short
insert-requires-clause-short c =
    let can = subst (λ (r : Reader). CanKeep r c.args.target c.args.piece) (sym c.self.view_is) c.requires in
    rw (from_offset c.self.inside.buffer.now _ c.args.target c.from.ensures)
    (whole_kept can c.self.inside.cache refl c.self.invariant.1.0).wire.short

pub invariant_of-self-2 : goal.invariant_of-self-2
invariant_of-self-2 c =
    let buffer = c.self.inside.buffer.now in
    let cache = c.self.inside.cache in
    let t = c.args.target in
    let can = subst (λ (r : Reader). CanKeep r c.args.target c.args.piece) (sym c.self.view_is) c.requires in
    let labels = take c.args.piece.len (drop t buffer) ++ kept_after cache c.args.piece.pointer in
    let now = rw (from_offset buffer _ t c.from.ensures) at c.in_ok-insert.ensures.ok in (
      c.self.invariant.0,
      subst (λ (m : Cache). AreKept buffer m × IsClosed buffer (targets_of m)) (sym now) (
        kept_are buffer cache t labels c.self.invariant.1.0 (whole_kept can cache refl c.self.invariant.1.0),
        subst (IsClosed buffer) (sym (targets_inserted cache t labels))
            (closed_inserted buffer (targets_of cache) t c.self.invariant.1.1 (passes_kept can c.self.invariant.1.1)),
      ),
    )

pub returns-clause-ok : goal.returns-clause-ok
returns-clause-ok c =
    let old = c.self.inside in
    let reader : set.FinSet nat_cmp → Reader =
    λ kept. record { bytes = old.buffer.now; index = old.index; kept = kept; jumps = old.jumps } in
    ap reader (ap targets_of c.in_ok-insert.ensures.ok ∙ targets_inserted old.cache c.args.target _)
    ∙ ap (λ (r : Reader). record r { kept = set.insert r.kept c.args.target }) c.self.view_is
