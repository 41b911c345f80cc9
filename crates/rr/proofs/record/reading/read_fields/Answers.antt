use Rattle.std.proofs.Common.{◌≡◌, ◌+◌, sym, subst, arith}
use Rattle.std.specs.Int.{w16, w32}
use Rattle.base.specs.Words.{IsNumberAt}
use Rattle.base_data.proofs.BytesRead.{bytes_is, number16_among, number32_among}
use Rattle.rr.proofs.record.reading.read_fields.Goals as goal

pub returns-clause-found : goal.returns-clause-found
returns-clause-found c =
    let at = c.args.decoder.now in
    let s = bytes_is 8 at.bytes at.index _ c.in_ok-class_high.ensures.read.0 in
    let here : at.index + 0 ≡ at.index = omega arith in (
      subst (λ k. IsNumberAt w16 at.bytes k c.from_be_bytes.result) here
          (subst (IsNumberAt w16 at.bytes (at.index + 0)) (sym c.from_be_bytes.ensures)
          (number16_among s 0 (omega arith))),
      subst (IsNumberAt w32 at.bytes (at.index + 2)) (sym c.from_be_bytes-2.ensures) (number32_among s 2 (omega arith)),
      subst (IsNumberAt w16 at.bytes (at.index + 6)) (sym c.from_be_bytes-3.ensures) (number16_among s 6 (omega arith)),
    )
