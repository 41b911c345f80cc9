use Rattle.std.proofs.Common.{ℕ, List, ◌∙◌, ap, arith}
use Rattle.std.specs.Prelude.{get_or}
use Rattle.base.proofs.reading.CacheLemmas.{zeros_after}
use Rattle.base.proofs.wire.pointer_cache.reach.Goals as goal

pub loop-none-preserved : goal.loop-none-preserved
loop-none-preserved c = record {
  same = λ q. ap (λ (xs : List ℕ). get_or xs q 0) c.in_ok-extend_from_slice.ensures.items
      ∙ zeros_after c.loop-none.places.items 256 q ∙ c.loop-none.invariant.same q;
  room = λ short. omega (
    arith,
    short,
    c.loop-none.invariant.room (omega (arith, c.loop-none-test.true)),
    c.in_ok-extend_from_slice.ensures.capacity,
  );
}
