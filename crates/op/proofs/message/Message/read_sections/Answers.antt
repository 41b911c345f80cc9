use Rattle.std.proofs.Common.{◌≡◌, ℕ, ◌+◌, ap, arith, subst}
use Rattle.std.proofs.lemmas.Result.{err_from_is_err_and}
use Rattle.base.specs.reading.Tracks.{Tracked}
use Rattle.base.proofs.reading.TrackLemmas.{bounded_after, tracked_both}
use Rattle.op.proofs.reading.AddsMessage.{adds_sections}
use Rattle.op.proofs.reading.PlainSections.{still_empty}
use Rattle.op.specs.Message.{MessageValue}
use Rattle.op.specs.Places.{records_places}
use Rattle.op.proofs.message.Message.read_sections.Goals as goal

pub read_section-requires-2 : goal.read_section-requires-2
read_section-requires-2 c = still_empty c.args.self.now.metadata.op_code c.args.decoder.now.bytes c.from.result
    c.args.decoder.now.index c.in_ok-read_section.ensures.read.0 (ap (λ (m : MessageValue). m.authorities) c.requires)

pub read_section-requires-3 : goal.read_section-requires-3
read_section-requires-3 c =
    let mid = c.read_section.new.decoder in
    still_empty c.args.self.now.metadata.op_code mid.bytes c.from-2.result mid.index
    c.in_ok-read_section-2.ensures.read.0 (ap (λ (m : MessageValue). m.additionals) c.requires)

pub returns-clause-tracks : goal.returns-clause-tracks
returns-clause-tracks c =
    let old = c.args.decoder.now in
    let answers = c.in_ok-read_section.ensures in
    let authorities = c.in_ok-read_section-2.ensures in
    let all = adds_sections c.from.result c.from-2.result c.from-3.result c.args.self.now.metadata.op_code
    answers.read.0 authorities.read.0 answers.tracks authorities.tracks c.in_ok-read_section-3.ensures.tracks in
    let counted : c.from.result + c.from-2.result + c.from-3.result
    ≡ c.args.counts.answers + c.args.counts.authorities + c.args.counts.additionals =
    omega (arith, c.from.ensures, c.from-2.ensures, c.from-3.ensures) in
    subst (λ (n : ℕ). Tracked (records_places n old.bytes old.index) old c.read_section-3.new.decoder) counted all

pub returns-in_err-read_section-2-clause-tracks : goal.returns-in_err-read_section-2-clause-tracks
returns-in_err-read_section-2-clause-tracks c =
    rw (err_from_is_err_and c.from_residual-in_err-read_section-2.result
    c.from_residual-in_err-read_section-2.ensures.1).1
    (bounded_after c.read_section-2.new.decoder c.in_ok-read_section.ensures.tracks
    c.in_err-read_section-2.ensures.tracks)

pub returns-in_err-read_section-3-clause-tracks : goal.returns-in_err-read_section-3-clause-tracks
returns-in_err-read_section-3-clause-tracks c =
    rw (err_from_is_err_and c.from_residual-in_err-read_section-3.result
    c.from_residual-in_err-read_section-3.ensures.1).1
    (bounded_after c.read_section-3.new.decoder
    (tracked_both c.in_ok-read_section.ensures.tracks c.in_ok-read_section-2.ensures.tracks)
    c.in_err-read_section-3.ensures.tracks)
