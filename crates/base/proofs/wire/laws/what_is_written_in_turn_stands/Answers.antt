use Rattle.std.proofs.Common.{length, arith}
use Rattle.base.proofs.writing.ItemLemmas.{Turn-each}
use Rattle.base.proofs.wire.laws.what_is_written_in_turn_stands.Goals as goal

pub returns : goal.returns
returns g c = record {
  writes = λ xs a b fits is within narrow.
      Turn-each g.E.BinEncodable.written g.E.BinEncodable.fits g.E.BinEncodable.word g.E.BinEncodable.plain_len
      g.E.BinEncodable.owner g.met.E.BinEncodable.says xs fits a b is within narrow;
  full = λ x limit b passes. omega (arith, passes, (g.met.E.BinEncodable.says x).at_most (length b.bytes) b.suffixes);
}
