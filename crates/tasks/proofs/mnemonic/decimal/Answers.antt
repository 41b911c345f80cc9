use Rattle.std.proofs.Common.{arith, get_or, sym, ◌≡◌, ◌≢◌, ◌∙◌}
use Rattle.base_data.proofs.FieldTexts.{number_signed}
use Rattle.tasks.proofs.MnemonicLemmas.{number_read}
use Rattle.tasks.proofs.mnemonic.decimal.Goals as goal

pub returns-then-first_byte-eq43 : goal.returns-then-first_byte-eq43
returns-then-first_byte-eq43 c = sym (number_signed 16 c.args.text.now (omega (arith, c.first_byte.ensures)))

pub returns : goal.returns
returns c =
    let plain : get_or c.args.text.now 0 0 ≢ 43 =
    λ (e : get_or c.args.text.now 0 0 ≡ 43). omega (arith, c.first_byte.ensures) in
    c.ok.ensures.value ∙ number_read _ c.args.text.now c.parse.result c.parse.ensures.value.0 plain
