use Rattle.std.proofs.Common.{◌≡◌, ◌+◌, sym, subst, arith}
use Rattle.std.specs.Int.{w16}
use Rattle.base.specs.Words.{IsNumberAt}
use Rattle.base_data.proofs.BytesRead.{byte_among, bytes_is, number16_among}
use Rattle.op.specs.Header.{IsHeaderAt}
use Rattle.op.specs.declared.header.Header.{Header}
use Rattle.op.specs.declared.header.header_counts.HeaderCounts.{HeaderCounts}
use Rattle.op.specs.declared.header.metadata.Metadata.{Metadata}
use Rattle.op.proofs.reading.HeaderReading.{header_there, reads_word}
use Rattle.op.proofs.header.HeaderBinDecodable.read.Goals as goal

pub number-requires : goal.number-requires
number-requires c = omega (arith, (bytes_is 12 _ _ _ c.in_ok-bytes.ensures.read.0).counted)

pub bounds-bytes-2 : goal.bounds-bytes-2
bounds-bytes-2 c = omega (arith, (bytes_is 12 _ _ _ c.in_ok-bytes.ensures.read.0).counted)

pub bounds-bytes-3 : goal.bounds-bytes-3
bounds-bytes-3 c = omega (arith, (bytes_is 12 _ _ _ c.in_ok-bytes.ensures.read.0).counted)

pub number-requires-2 : goal.number-requires-2
number-requires-2 c = omega (arith, (bytes_is 12 _ _ _ c.in_ok-bytes.ensures.read.0).counted)

pub number-requires-3 : goal.number-requires-3
number-requires-3 c = omega (arith, (bytes_is 12 _ _ _ c.in_ok-bytes.ensures.read.0).counted)

pub number-requires-4 : goal.number-requires-4
number-requires-4 c = omega (arith, (bytes_is 12 _ _ _ c.in_ok-bytes.ensures.read.0).counted)

pub number-requires-5 : goal.number-requires-5
number-requires-5 c = omega (arith, (bytes_is 12 _ _ _ c.in_ok-bytes.ensures.read.0).counted)

pub returns-clause-found : goal.returns-clause-found
returns-clause-found c =
    let at = c.args.decoder.now in
    let s = bytes_is 12 at.bytes at.index _ c.in_ok-bytes.ensures.read.0 in
    let here : at.index + 0 ≡ at.index = omega arith in
    let counts : HeaderCounts = record {
      queries = c.number-2.result;
      answers = c.number-3.result;
      authorities =
          c.number-4.result;
      additionals = c.number-5.result;
    } in
    let id = subst (λ k. IsNumberAt w16 at.bytes k c.number.result) here
    (subst (IsNumberAt w16 at.bytes (at.index + 0)) (sym c.number.ensures) (number16_among s 0 (omega arith))) in
    let queries = subst (IsNumberAt w16 at.bytes (at.index + 4)) (sym c.number-2.ensures)
    (number16_among s 4 (omega arith)) in
    let answers = subst (IsNumberAt w16 at.bytes (at.index + 6)) (sym c.number-3.ensures)
    (number16_among s 6 (omega arith)) in
    let authorities = subst (IsNumberAt w16 at.bytes (at.index + 8)) (sym c.number-4.ensures)
    (number16_among s 8 (omega arith)) in
    let additionals = subst (IsNumberAt w16 at.bytes (at.index + 10)) (sym c.number-5.ensures)
    (number16_among s 10 (omega arith)) in
    let header = header_there counts id (byte_among s 2 (omega arith))
    (byte_among s 3 (omega arith)) queries answers authorities additionals in (
      subst (λ (metadata : Metadata). IsHeaderAt at.bytes at.index (record { metadata = metadata; counts = counts }))
          (sym c.metadata_of-metadata.ensures) header,
      s.after,
    )

pub returns-clause-read : goal.returns-clause-read
returns-clause-read c =
    let at = c.args.decoder.now in
    let counts : HeaderCounts = record {
      queries = c.number-2.result;
      answers = c.number-3.result;
      authorities =
          c.number-4.result;
      additionals = c.number-5.result;
    } in
    let header : Header = record { metadata = c.metadata_of-metadata.result; counts = counts } in (
      (reads_word at.bytes at.index header c.read_slice.new.self.index).1 (returns-clause-found c),
      c.in_ok-bytes.ensures.read.1,
    )

pub returns-clause-tracks : goal.returns-clause-tracks
returns-clause-tracks c = c.in_ok-bytes.ensures.tracks
