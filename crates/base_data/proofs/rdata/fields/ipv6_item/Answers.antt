use Rattle.base_data.proofs.FieldTexts.{ipv6_parsed}
use Rattle.base_data.proofs.rdata.fields.ipv6_item.Goals as goal

pub returns : goal.returns
returns c = rw (c.ok_or.ensures.value, c.ok.ensures.value)
    (ipv6_parsed c.args.item.now c.parse.result c.parse.ensures.value)
