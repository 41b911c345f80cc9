use Rattle.base.proofs.reading.ManyLemmas.{Gathers}
use Rattle.base.proofs.reading.TrackLemmas.{TracksMany}
use Rattle.base.proofs.wire.many.read_many.Given as goal

abbrev pub invariant-loop : goal.invariant-loop
invariant-loop g l = record {
  gathers : Gathers g.T.BinDecodable.read_at l.count l.counter l.fn.decoder.bytes l.decoder.bytes l.fn.decoder.index
      l.decoder.index l.values.items;
  tracks : TracksMany g.T.BinDecodable.read_at g.T.BinDecodable.names_at l.count l.counter l.fn.decoder l.decoder;
}
