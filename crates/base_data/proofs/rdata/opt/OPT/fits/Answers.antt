use Rattle.std.proofs.Common.{[], ◌∷◌, ◌++◌, arith, sym, subst, take, ap, ◌∙◌}
use Rattle.std.specs.Prelude.{All}
use Rattle.std.proofs.lemmas.List.{take_more}
use Rattle.std.proofs.lemmas.List.Elements.{All-push}
use Rattle.base_data.specs.OPT.{FitsOption, OptionValue}
use Rattle.base_data.proofs.rdata.opt.OPT.fits.Goals as goal

pub options-init : goal.options-init
options-init c = λ k d inside. absurd (omega (arith, inside))

pub options-preserved : goal.options-preserved
options-preserved c =
    let options = c.as_ref-option-items.result.now in
    let option = c.option-item.result in
    let seen = take c.options.option-index options in
    let more = take_more options c.options.option-index option c.options-test.true
    ∙ ap (λ (o : OptionValue). seen ++ o ∷ []) (sym c.option-item.is) in
    subst (All FitsOption) (sym more)
    (All-push FitsOption seen option c.options.invariant
    (omega (arith, c.code.type_inv, c.code.ensures), omega (arith, c.bytes.ensures.short)))
