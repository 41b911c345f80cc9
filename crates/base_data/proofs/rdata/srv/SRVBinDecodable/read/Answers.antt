use Rattle.std.proofs.Common.{◌≡◌, ℕ, ◌+◌, [], ◌∷◌, arith, subst}
use Rattle.std.specs.Int.{w16}
use Rattle.base.specs.reading.Tracks.{Tracked}
use Rattle.base.proofs.reading.ReadLemmas.{number_is}
use Rattle.base.proofs.reading.TrackLemmas.{tracked_then}
use Rattle.base_data.proofs.rdata.srv.SRVBinDecodable.read.Goals as goal

pub returns-clause-tracks : goal.returns-clause-tracks
returns-clause-tracks c =
    let old = c.args.decoder.now in
    let weight = c.read_u16.new.self in
    let port = c.read_u16-2.new.self in
    let first = (number_is w16 old.bytes old.index _ c.in_ok-read_u16.ensures.read.0).after in
    let second = (number_is w16 weight.bytes weight.index _ c.in_ok-read_u16-2.ensures.read.0).after in
    let third = (number_is w16 port.bytes port.index _ c.in_ok-read_u16-3.ensures.read.0).after in
    let at : c.read_u16-3.new.self.index ≡ old.index + 6 = omega (arith, first, second, third) in
    let numbers = tracked_then (tracked_then c.in_ok-read_u16.ensures.tracks c.in_ok-read_u16-2.ensures.tracks)
    c.in_ok-read_u16-3.ensures.tracks in
    subst (λ (i : ℕ). Tracked (i ∷ []) old c.read.new.decoder) at (tracked_then numbers c.in_ok-read.ensures.tracks)
