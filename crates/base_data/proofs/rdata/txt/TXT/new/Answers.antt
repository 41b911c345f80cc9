use Rattle.std.proofs.Common.{sym, ◌∙◌, arith}
use Rattle.std.proofs.lemmas.Grind.{common_steps}
use Rattle.base.proofs.names.LabelLemmas.{wire_of-nil}
use Rattle.base_data.proofs.StringLemmas.{wire_of-next, shown_text, shown_strings}
use Rattle.base_data.proofs.rdata.txt.TXT.new.Goals as goal

pub loop-string-init : goal.loop-string-init
loop-string-init c = c.new-bytes.ensures.items ∙ sym wire_of-nil

pub loop-string-preserved : goal.loop-string-preserved
loop-string-preserved c = grind (arith, common_steps, wire_of-next)

pub invariant_of-result : goal.invariant_of-result
invariant_of-result c = shown_text c.loop-string.bytes.items c.args.strings.now c.loop-string.string-index
    c.loop-string.invariant c.loop-string-test.false c.requires.some c.requires.short

pub returns-clause-value : goal.returns-clause-value
returns-clause-value c = shown_strings c.loop-string.bytes.items c.args.strings.now c.loop-string.string-index
    c.loop-string.invariant c.loop-string-test.false
