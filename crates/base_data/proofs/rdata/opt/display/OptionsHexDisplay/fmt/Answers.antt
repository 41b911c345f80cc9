use Rattle.std.proofs.Common.{refl, true}
use Rattle.std.proofs.Output.{has_written_append, has_written_of_eq}
use Rattle.base_data.proofs.OptionTexts.{hex_next}
use Rattle.base_data.proofs.rdata.opt.display.OptionsHexDisplay.fmt.Goals as goal

pub loop-option-preserved : goal.loop-option-preserved
loop-option-preserved g c = λ plain.
    let before = c.loop-option.invariant plain in
    has_written_of_eq _ _ _ _ _ (hex_next c.args.self.now.0.now c.loop-option.option-index c.option-item.result
    c.loop-option-test.true c.option-item.is)
    (has_written_append _ _ _ _ _ _ before (c.in_ok-fmt.ensures.writes before.plain (refl {a = true})))
