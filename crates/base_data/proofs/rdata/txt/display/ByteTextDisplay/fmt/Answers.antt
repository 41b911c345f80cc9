use Rattle.std.proofs.Common.{rules, ap, ◌∙◌, ◌∷◌, arith}
use Rattle.std.proofs.Output.{has_written_of_eq}
use Rattle.std.specs.Fmt.{styled_decimal}
use Rattle.base.proofs.texts.EscapeLemmas.{three_places}
use Rattle.base_data.proofs.rdata.txt.display.ByteTextDisplay.fmt.Goals as goal

pub returns-in_default-clause-writes : goal.returns-in_default-clause-writes
returns-in_default-clause-writes g c = λ plain ok.
    has_written_of_eq _ _ _ _ _
    (ap (λ spec. 92 ∷ styled_decimal spec c.args.self.now.0) c.laid_out.ensures
    ∙ ap (λ digits. 92 ∷ digits) (three_places c.args.self.now.0 (omega arith))
    ∙ search rules) (c.write-in_default.ensures.writes plain ok)
