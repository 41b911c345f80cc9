use Rattle.std.proofs.Common.{◌≤◌, ap, subst, sym, ◌∙◌}
use Rattle.std.specs.FinSet as set
use Rattle.base.specs.reading.Reader.{Reader}
use Rattle.base.proofs.reading.CountLemmas.{few_kept}
use Rattle.base.proofs.wire.decoder.BinDecoder.jumps.Goals as goal

pub returns-clause-counted : goal.returns-clause-counted
returns-clause-counted c = λ counted. record {
  exact = ap (λ (r : Reader). r.jumps) (sym c.self.view_is) ∙ counted;
  few = subst (λ (r : Reader). set.len r.kept ≤ 16384) c.self.view_is (few_kept _ _ c.self.invariant.1.0);
}
