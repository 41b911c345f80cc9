use Rattle.std.proofs.Common.{ap, ◌∙◌, arith}
use Rattle.std.proofs.Output.{has_written_of_eq}
use Rattle.base_data.proofs.OptionTexts.{none_text, some_text}
use Rattle.base_data.specs.Opaque.{opaque_text}
use Rattle.base_data.specs.OPT.{options_wire}
use Rattle.base_data.proofs.rdata.opt.display.OPTDisplay.fmt.Goals as goal

pub returns-then-len-eq0-clause-writes : goal.returns-then-len-eq0-clause-writes
returns-then-len-eq0-clause-writes g c = λ plain ok.
    let options = c.as_ref-options.result.now in
    has_written_of_eq _ _ _ _ _
    (none_text options c.wire_len-len.result c.wire_len-len.ensures c.if-len-eq0.true
    ∙ ap (λ xs. opaque_text (options_wire xs)) c.as_ref-options.ensures) (c.write_str.ensures.writes plain ok)

pub returns-clause-writes : goal.returns-clause-writes
returns-clause-writes g c = λ plain ok.
    let options = c.as_ref-options.result.now in
    has_written_of_eq _ _ _ _ _
    (some_text options c.wire_len-len.result c.wire_len-len.ensures (omega (arith, c.if-len-eq0.false))
    ∙ ap (λ xs. opaque_text (options_wire xs)) c.as_ref-options.ensures) (c.write.ensures.writes plain ok)
