use Rattle.std.proofs.Common.{rules}
use Rattle.std.proofs.lemmas.Result.{err_from_is_err_and}
use Rattle.base.proofs.reading.ManyLemmas.{gathers_more, gathers_all, gathers_fault}
use Rattle.base.proofs.reading.TrackLemmas.{bounded_after, bounded_here, refused_tracks, tracked_both, tracks_many_all}
use Rattle.base.proofs.reading.TrackLemmas.{tracks_many_more, tracks_many_none}
use Rattle.base.proofs.wire.many.read_many.Goals as goal

pub returns-in_err-value-clause-read : goal.returns-in_err-value-clause-read
returns-in_err-value-clause-read g c =
    let p = err_from_is_err_and c.from_residual-in_err-value.result c.from_residual-in_err-value.ensures.1 in
    rw (p.1, p.2) (gathers_fault c.in_err-value.field-0.0 c.loop-test.true c.in_err-value.ensures.read
    c.loop.invariant.gathers)

pub loop-init : goal.loop-init
loop-init g c = record { gathers = search rules; tracks = tracks_many_none _ _ _ _ }

pub loop-preserved : goal.loop-preserved
loop-preserved g c = record {
  gathers = rw (c.in_ok-push.ensures.items, c.in_ok-value.ensures.read.1)
      (gathers_more c.loop-test.true c.in_ok-value.ensures.read.0 c.loop.invariant.gathers);
  tracks = tracks_many_more c.loop.invariant.tracks c.loop-test.true c.in_ok-value.ensures.read.0
      c.in_ok-value.ensures.tracks;
}

pub returns-clause-read : goal.returns-clause-read
returns-clause-read g c = (gathers_all c.loop-test.false c.loop.invariant.gathers, c.loop.invariant.gathers.same)

pub returns-clause-tracks : goal.returns-clause-tracks
returns-clause-tracks g c = tracks_many_all c.loop.invariant.tracks c.loop-test.false

-- a refusal keeps what was counted
pub returns-in_err-value-clause-tracks : goal.returns-in_err-value-clause-tracks
returns-in_err-value-clause-tracks g c =
    refused_tracks _ c.args.decoder.now c.read.new.decoder _ c.from_residual-in_err-value.ensures.0
    (bounded_after c.read.new.decoder c.loop.invariant.tracks.so_far c.in_err-value.ensures.tracks)

pub returns-in_err-push-clause-read : goal.returns-in_err-push-clause-read
returns-in_err-push-clause-read g c =
    let p = err_from_is_err_and c.from_residual-in_err-push.result c.from_residual-in_err-push.ensures.1 in
    rw (p.1, p.2) tt

pub returns-in_err-push-clause-tracks : goal.returns-in_err-push-clause-tracks
returns-in_err-push-clause-tracks g c =
    refused_tracks _ c.args.decoder.now c.read.new.decoder _ c.from_residual-in_err-push.ensures.0
    (bounded_here (tracked_both c.loop.invariant.tracks.so_far c.in_ok-value.ensures.tracks))
