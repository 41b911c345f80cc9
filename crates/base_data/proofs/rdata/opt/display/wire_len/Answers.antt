use Rattle.std.proofs.Common.{ap, length, arith}
use Rattle.base_data.proofs.OptionTexts.{len_next}
use Rattle.base_data.proofs.rdata.opt.display.wire_len.Goals as goal

pub loop-option-preserved : goal.loop-option-preserved
loop-option-preserved c =
    let next = len_next c.args.options.now c.loop-option.option-index c.option-item.result c.loop-option-test.true
    c.option-item.is in
    let len = ap length c.bytes.ensures.value in
    record {
      counted = omega (arith, next, len, c.loop-option.invariant.counted);
      small = omega (arith, len, c.bytes.ensures.short, c.loop-option.invariant.small);
    }
