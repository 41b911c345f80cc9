use Rattle.std.proofs.Common.{rules, sym, ◌∙◌, ◌≡◌}
use Rattle.std.proofs.lemmas.Result.{err_from_is_err_and}
use Rattle.base.proofs.reading.TrackLemmas.{bounded_after, bounded_here, tracked_both, tracks_many_all}
use Rattle.base.proofs.reading.TrackLemmas.{tracks_many_more, tracks_many_none}
use Rattle.op.specs.Section.{section_value, section_with}
use Rattle.op.proofs.reading.SectionLemmas.{takes_all, takes_failed, takes_more, takes_unread, test_fails, test_passes}
use Rattle.op.proofs.message.reading.section.read_each.Goals as goal

pub returns-in_err-record_type-clause-read : goal.returns-in_err-record_type-clause-read
returns-in_err-record_type-clause-read c =
    let p = err_from_is_err_and c.from_residual-in_err-record_type.result
    c.from_residual-in_err-record_type.ensures.1 in
    rw (p.1, p.2) (takes_unread c.loop.invariant.takes c.in_err-record_type.field-0.0 c.loop-test.true
    c.in_err-record_type.ensures.read)

pub returns-in-Some-clause-read : goal.returns-in-Some-clause-read
returns-in-Some-clause-read c =
    takes_failed c.loop.invariant.takes c.in-Some.fault c.loop-test.true c.in_ok-record_type.ensures.read.0
    (test_fails c.args.is_additional c.args.op_code
    (section_value c.loop.records.items c.loop.edns c.loop.signature) c.read_in_place.new.self c.in-Some.fault
    c.in-Some.ensures)

pub returns-in_err-record_type-clause-tracks : goal.returns-in_err-record_type-clause-tracks
returns-in_err-record_type-clause-tracks c =
    rw (err_from_is_err_and c.from_residual-in_err-record_type.result c.from_residual-in_err-record_type.ensures.1).1
    (bounded_after c.read_in_place.new.decoder c.loop.invariant.tracks.so_far c.in_err-record_type.ensures.tracks)

pub returns-in-Some-clause-tracks : goal.returns-in-Some-clause-tracks
returns-in-Some-clause-tracks c =
    bounded_here (tracked_both c.loop.invariant.tracks.so_far c.in_ok-record_type.ensures.tracks)

pub returns-in_err-add-clause-tracks : goal.returns-in_err-add-clause-tracks
returns-in_err-add-clause-tracks c =
    rw (err_from_is_err_and c.from_residual-in_err-add.result c.from_residual-in_err-add.ensures.1).1
    (bounded_here (tracked_both c.loop.invariant.tracks.so_far c.in_ok-record_type.ensures.tracks))

pub loop-init : goal.loop-init
loop-init c = record { takes = search rules; tracks = tracks_many_none _ _ _ _ }

pub loop-preserved : goal.loop-preserved
loop-preserved c =
    let read = c.in_ok-record_type.ensures.read in
    let before = section_value c.loop.records.items c.loop.edns c.loop.signature in
    let after = section_value c.if-is_edns.records.items c.if-is_edns.edns c.if-is_edns.signature in
    let next = c.read_in_place.new.self in
    let added : after ≡ section_with before next = search rules in
    record {
      takes = rw read.1 (takes_more c.loop.invariant.takes c.loop-test.true read.0
          (test_passes c.args.is_additional c.args.op_code before after next
          (sym c.in_default.is ∙ c.fault_of.ensures) added));
      tracks = tracks_many_more c.loop.invariant.tracks c.loop-test.true read.0 c.in_ok-record_type.ensures.tracks;
    }

pub returns-clause-read : goal.returns-clause-read
returns-clause-read c = (takes_all c.loop.invariant.takes c.loop-test.false, c.loop.invariant.takes.same)

pub returns-clause-tracks : goal.returns-clause-tracks
returns-clause-tracks c = tracks_many_all c.loop.invariant.tracks c.loop-test.false
