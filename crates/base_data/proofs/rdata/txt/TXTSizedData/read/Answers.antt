use Rattle.std.proofs.Common.{refl, arith}
use Rattle.base_data.proofs.BytesRead.{bytes_is}
use Rattle.base_data.proofs.StringLemmas.{read_text}
use Rattle.base_data.proofs.rdata.txt.TXTSizedData.read.Goals as goal

pub invariant_of-result : goal.invariant_of-result
invariant_of-result c =
    let found = bytes_is c.from.result c.args.decoder.now.bytes c.args.decoder.now.index
    (c.in_ok-bytes.bytes.now, c.read_slice.new.self.index) c.in_ok-bytes.ensures.read.0 in
    let tested = c.if-not-are_strings.ensures in
    read_text c.in_ok-from_slice.field-0.items c.in_ok-bytes.bytes.now c.in_ok-from_slice.ensures.items
    (omega (arith, found.counted, c.from.ensures, c.requires)) tested.value (tested.short refl)
