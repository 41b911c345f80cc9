use Rattle.std.proofs.Common.{ap, sym, ◌∙◌, ◌∷◌, arith}
use Rattle.std.proofs.Output.{has_written_of_eq}
use Rattle.std.specs.Fmt.{styled_decimal}
use Rattle.base.proofs.texts.EscapeLemmas.{three_places, escaped, plain, special}
use Rattle.base.proofs.name.display.ByteTextDisplay.fmt.Goals as goal

pub returns-then-not-is_ascii_graphic-clause-writes : goal.returns-then-not-is_ascii_graphic-clause-writes
returns-then-not-is_ascii_graphic-clause-writes g c = λ plain ok.
    has_written_of_eq _ _ _ _ _
    (ap (λ spec. 92 ∷ styled_decimal spec c.args.self.now.0) c.laid_out.ensures
    ∙ ap (λ digits. 92 ∷ digits) (three_places c.args.self.now.0 (omega arith))
    ∙ escaped c.args.self.now.0 (sym c.is_ascii_graphic.ensures.value ∙ c.if-not-is_ascii_graphic.true))
    (c.write.ensures.writes plain ok)

pub returns-then-is_special-clause-writes : goal.returns-then-is_special-clause-writes
returns-then-is_special-clause-writes g c = λ is_plain ok.
    has_written_of_eq _ _ _ _ _ (special c.args.self.now.0
    (sym c.is_ascii_graphic.ensures.value ∙ c.if-not-is_ascii_graphic.false)
    (sym c.is_special.ensures ∙ c.if-is_special.true))
    (c.write-then-is_special.ensures.writes is_plain ok)

pub returns-else-is_special-clause-writes : goal.returns-else-is_special-clause-writes
returns-else-is_special-clause-writes g c = λ is_plain ok.
    has_written_of_eq _ _ _ _ _ (plain c.args.self.now.0
    (sym c.is_ascii_graphic.ensures.value ∙ c.if-not-is_ascii_graphic.false)
    (sym c.is_special.ensures ∙ c.if-is_special.false))
    (c.write-else-is_special.ensures.writes is_plain ok)
