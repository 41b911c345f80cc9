use Rattle.base.proofs.reading.NameLemmas.{Looks, looks_left}
use Rattle.base.specs.names.Labels.{IsWire}
use Rattle.base.proofs.name.Name.read_labels.Given as goal

abbrev pub invariant-look : goal.invariant-look
invariant-look l = record {
  looks : Looks l.fn.decoder l.target l.piece.len l.decoder;
  wire : IsWire l.self-inside.labels.items;
}

abbrev pub decreases-look : goal.decreases-look
decreases-look l = looks_left l.decoder l.target
