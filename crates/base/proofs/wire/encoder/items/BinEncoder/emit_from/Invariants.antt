use Rattle.std.proofs.Common.{◌≡◌, ◌+◌, ◌-◌, ◌<◌, ◌^◌, ℕ, suc, List, Option, Some, None, IfSome, length}
use Rattle.std.specs.Prelude.{All}
use Rattle.std.specs.Iterator.{Count, IsFinite, YieldsThen, size}
use Rattle.base.specs.writing.Laws.{Keeps}
use Rattle.base.specs.writing.Wire.{state_of}
use Rattle.base.specs.writing.Written.{after, in_turn}
use Rattle.base.proofs.wire.encoder.items.BinEncoder.emit_from.Given as goal

-- how many items are still to be written at most
abbrev pub left : {A : Type 0} → Option A → Count → ℕ
left None count = 0
left (Some x) count = suc (size count)

abbrev pub invariant-loop-next : goal.invariant-loop-next
invariant-loop-next g l = record {
  written : (xs : List g.row.E.Denot)
      × All g.E.BinEncodable.fits xs
      × Keeps (state_of l.fn.self) (state_of l.self)
      × (state_of l.self ≡ after (in_turn g.E.BinEncodable.written xs) (state_of l.fn.self))
      × (l.count ≡ length xs)
      × ((before : g.row.I.Denot) → g.I.Iterator.next_gives before (Some l.fn.first) l.fn.items
      → YieldsThen g.I.Iterator.next_gives before xs l.next l.items);
  goes : IfSome l.next (λ _. g.I.Iterator.can_next l.items × IsFinite (g.I.Iterator.remaining l.items)
      × (l.count + size (g.I.Iterator.remaining l.items) < 2 ^ 64 - 1));
}

abbrev pub decreases-loop-next : goal.decreases-loop-next
decreases-loop-next g l = left l.next (g.I.Iterator.remaining l.items)
