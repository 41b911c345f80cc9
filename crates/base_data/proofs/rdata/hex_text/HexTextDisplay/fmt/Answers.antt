use Rattle.std.proofs.Common.{get_or, refl, true, arith}
use Rattle.std.proofs.Output.{has_written_append, has_written_of_eq}
use Rattle.base_data.proofs.HexTexts.{next_byte, two_digits}
use Rattle.base_data.proofs.rdata.hex_text.HexTextDisplay.fmt.Goals as goal

pub loop-byte-preserved : goal.loop-byte-preserved
loop-byte-preserved g c = λ plain.
    let before = c.loop-byte.invariant plain in
    let byte = get_or c.args.self.now.0.now c.loop-byte.byte-index 0 in
    let writes = rw (two_digits c.in_radix.result c.laid_out.result byte
    (omega arith) c.in_radix.ensures c.laid_out.ensures) at c.in_ok-write.ensures.writes in
    has_written_of_eq _ _ _ _ _ (next_byte c.args.self.now.0.now c.loop-byte.byte-index c.loop-byte-test.true)
    (has_written_append _ _ _ _ _ _ before (writes before.plain (refl {a = true})))
