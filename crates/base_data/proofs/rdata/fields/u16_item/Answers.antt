use Rattle.std.proofs.Common.{◌≡◌, ◌≢◌, get_or, arith}
use Rattle.base_data.proofs.FieldTexts.{number_parsed, number_signed}
use Rattle.base_data.proofs.rdata.fields.u16_item.Goals as goal

pub returns-then-first_byte-eq43 : goal.returns-then-first_byte-eq43
returns-then-first_byte-eq43 c = number_signed 16 c.args.item.now (omega (arith, c.first_byte.ensures))

pub returns : goal.returns
returns c =
    let plain : get_or c.args.item.now 0 0 ≢ 43 =
    λ (e : get_or c.args.item.now 0 0 ≡ 43). omega (arith, c.first_byte.ensures) in
    rw (c.ok_or.ensures.value, c.ok.ensures.value)
    (number_parsed 16 c.args.item.now c.parse.result c.parse.ensures.value.0 plain)
