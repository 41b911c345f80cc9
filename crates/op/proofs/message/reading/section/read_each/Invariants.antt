use Rattle.base.proofs.reading.TrackLemmas.{TracksMany}
use Rattle.rr.specs.Record.{record_at, record_places}
use Rattle.op.proofs.reading.SectionLemmas.{Takes}
use Rattle.op.specs.Section.{section_value}
use Rattle.op.proofs.message.reading.section.read_each.Given as goal

abbrev pub invariant-loop : goal.invariant-loop
invariant-loop l = record {
  takes : Takes l.is_additional l.op_code l.count l.counter l.fn.decoder.bytes l.decoder.bytes l.fn.decoder.index
      l.decoder.index (section_value l.records.items l.edns l.signature);
  tracks : TracksMany record_at record_places l.count l.counter l.fn.decoder l.decoder;
}
