use Rattle.std.proofs.Common.{◌≡◌, List, arith, ap, false, rules}
use Rattle.std.specs.Prelude.{nat_le}
use Rattle.std.proofs.lemmas.Bool.{lt-leb}
use Rattle.std.proofs.lemmas.Result.{on_ok_weaker}
use Rattle.base.specs.writing.State.{Stored}
use Rattle.base.specs.writing.Wire.{state_of}
use Rattle.base.proofs.wire.encoder.table.BinEncoder.store.Goals as goal

-- beyond what a pointer can name nothing is stored
pub returns-then-at-ge-POINTER_LIMIT-clause-ok : goal.returns-then-at-ge-POINTER_LIMIT-clause-ok
returns-then-at-ge-POINTER_LIMIT-clause-ok c = search rules

pub store-requires-clause-near : goal.store-requires-clause-near
store-requires-clause-near c = omega arith

pub returns-clause-ok : goal.returns-clause-ok
returns-clause-ok c =
    let near : nat_le 16384 c.args.at ≡ false = lt-leb 16384 c.args.at c.if-at-ge-POINTER_LIMIT.false in
    rw near (on_ok_weaker c.store.result (λ same. ap
    (λ (ts : List Stored). record (state_of c.args.self.now) { suffixes = ts }) same) c.store.ensures.ok)
