use Rattle.std.proofs.Common.{ℕ, [], ◌∷◌, ap, subst, sym}
use Rattle.base.specs.reading.Tracks.{Tracked}
use Rattle.base.specs.reading.Reading.{place_after}
use Rattle.base.proofs.reading.TrackLemmas.{tracked_both}
use Rattle.base_data.proofs.rdata.soa.SOABinDecodable.read.Goals as goal

pub returns-clause-tracks : goal.returns-clause-tracks
returns-clause-tracks c =
    let old = c.args.decoder.now in
    let names = tracked_both c.in_ok-read.ensures.tracks c.in_ok-read-2.ensures.tracks in
    let serial = tracked_both names c.in_ok-read_u32.ensures.tracks in
    let refresh = tracked_both serial c.in_ok-read_u32-2.ensures.tracks in
    let retry = tracked_both refresh c.in_ok-read_u32-3.ensures.tracks in
    let expire = tracked_both retry c.in_ok-read_u32-4.ensures.tracks in
    let minimum = tracked_both expire c.in_ok-read_u32-5.ensures.tracks in
    subst (λ (i : ℕ). Tracked (old.index ∷ i ∷ []) old c.read_u32-5.new.self)
    (sym (ap place_after c.in_ok-read.ensures.read.0)) minimum
