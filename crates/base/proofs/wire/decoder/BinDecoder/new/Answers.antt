use Rattle.std.proofs.Common.{◌∙◌, ap, sym, subst, arith}
use Rattle.std.specs.FinSet as set
use Rattle.std.specs.Ordering.{nat_cmp}
use Rattle.base.specs.reading.Passing.{IsClosed}
use Rattle.base.specs.reading.Pointers.{AreKept, Cache, targets_of}
use Rattle.base.specs.reading.Reader.{begun}
use Rattle.base.proofs.reading.CountLemmas.{targets_none}
use Rattle.base.proofs.reading.PassLemmas.{nothing_kept}
use Rattle.base.proofs.wire.decoder.BinDecoder.new.Goals as goal

pub invariant_of-result : goal.invariant_of-result
invariant_of-result c =
    let bytes = c.args.buffer.now in (
      omega arith,
      subst (λ (cache : Cache). AreKept bytes cache × IsClosed bytes (targets_of cache)) (sym c.new.ensures)
          (nothing_kept bytes),
    )

pub returns : goal.returns
returns c =
    let bytes = c.args.buffer.now in
    ap (λ (kept : set.FinSet nat_cmp). record (begun bytes) { kept = kept })
    (ap targets_of c.new.ensures ∙ targets_none)
