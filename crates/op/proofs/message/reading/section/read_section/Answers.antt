use Rattle.std.proofs.Common.{arith, refl}
use Rattle.base.proofs.reading.TrackLemmas.{tracks_many_all, tracks_many_none}
use Rattle.rr.specs.Record.{record_at, record_places}
use Rattle.op.specs.Section.{section_from}
use Rattle.op.proofs.message.reading.section.read_section.Goals as goal

pub returns-then-count-eq0-clause-read : goal.returns-then-count-eq0-clause-read
unfolding section_from
returns-then-count-eq0-clause-read c = rw (c.if-count-eq0.true, c.requires) (refl, refl)

pub returns-then-count-eq0-clause-tracks : goal.returns-then-count-eq0-clause-tracks
returns-then-count-eq0-clause-tracks c = rw c.if-count-eq0.true
    (tracks_many_all (tracks_many_none record_at record_places 0 c.args.decoder.now) (omega arith))
