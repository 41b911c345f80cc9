use Rattle.std.proofs.Common.{◌≡◌, sym, ◌∙◌, subst, List, ℕ, Ok}
use Rattle.std.proofs.lemmas.Result.{err_from_is_err_and}
use Rattle.base.specs.reading.Reading.{Fails, Reads}
use Rattle.rr.specs.Record.{body_at, record_at}
use Rattle.base.proofs.reading.TrackLemmas.{bounded_after, bounded_here, tracked_both}
use Rattle.rr.proofs.AddsRecord.{record_tracks}
use Rattle.rr.proofs.ReadSteps.{name_fails, other_type, record_read, root_owner, type_fails, wrong_owner}
use Rattle.rr.proofs.RecordLemmas.{not_root}
use Rattle.rr.proofs.record.reading.Record+RData.read_in_place.Goals as goal
use Rattle.rr.proofs.record.reading.Record+RData.read_in_place.Goals.{After-read_body}
use Rattle.rr.proofs.record.reading.Record+RData.read_in_place.Goals.{else-is_opt-via-then-is_opt+else-not-is_root}
use Rattle.rr.proofs.record.reading.Record+RData.read_in_place.Goals.{else-is_opt-via-else-is_opt}

pub returns-in_err-read_in_place-clause-read : goal.returns-in_err-read_in_place-clause-read
returns-in_err-read_in_place-clause-read c =
    let p = err_from_is_err_and c.from_residual.result c.from_residual.ensures.1 in
    let at = c.args.decoder.now in
    rw (p.1, p.2) (name_fails at.bytes at.index c.in_err-read_in_place.field-0.0 c.in_err-read_in_place.ensures.read)

pub returns-in_err-record_type-clause-read : goal.returns-in_err-record_type-clause-read
returns-in_err-record_type-clause-read c =
    let p = err_from_is_err_and c.from_residual-in_err-record_type.result
    c.from_residual-in_err-record_type.ensures.1 in
    let at = c.args.decoder.now in
    let owner = c.in_ok-read_in_place.ensures.read in
    let second = c.read_in_place.new.decoder in
    rw (p.1, p.2) (type_fails at.bytes at.index c.read_in_place.new.self second.index owner.0 second.bytes owner.1
    c.in_err-record_type.field-0.0 c.in_err-record_type.ensures.read)

pub returns-in_err-record_type-clause-tracks : goal.returns-in_err-record_type-clause-tracks
returns-in_err-record_type-clause-tracks c =
    rw (err_from_is_err_and c.from_residual-in_err-record_type.result c.from_residual-in_err-record_type.ensures.1).1
    (bounded_after c.read.new.decoder c.in_ok-read_in_place.ensures.tracks c.in_err-record_type.ensures.tracks)

pub returns-then-not-is_root-clause-read : goal.returns-then-not-is_root-clause-read
returns-then-not-is_root-clause-read c =
    let at = c.args.decoder.now in
    let second = c.read_in_place.new.decoder in
    let owner = c.in_ok-read_in_place.ensures.read in
    let type = c.in_ok-record_type.ensures.read in
    let labelled = not_root at.bytes at.index c.read_in_place.new.self second.index c.is_root.result owner.0 c.is_root.ensures
    c.if-not-is_root.true in
    rw c.replace.ensures.value
    (wrong_owner at.bytes at.index c.read_in_place.new.self second.index owner.0 second.bytes owner.1
    c.in_ok-record_type.record_type c.read.new.decoder.index type.0
    (sym c.is_opt.ensures ∙ c.if-is_opt.true) labelled)

pub returns-then-not-is_root-clause-tracks : goal.returns-then-not-is_root-clause-tracks
returns-then-not-is_root-clause-tracks c =
    bounded_here (tracked_both c.in_ok-read_in_place.ensures.tracks c.in_ok-record_type.ensures.tracks)

-- the body is that of the record, whose owner isn't a wrong one
is_record : (c : After-read_body) → body_at c.read_in_place.new.self c.in_ok-record_type.record_type c.args.decoder.now.bytes
    c.read.new.decoder.index
    ≡ record_at c.args.decoder.now.bytes c.args.decoder.now.index
is_record c =
    let at = c.args.decoder.now in
    let second = c.read_in_place.new.decoder in
    let owner = c.in_ok-read_in_place.ensures.read in
    let last = c.read.new.decoder in
    let kind = c.in_ok-record_type.record_type in
    let type = c.in_ok-record_type.ensures.read in
    elim c.else-is_opt.branch [
      | else-is_opt-via-then-is_opt+else-not-is_root w ↦ root_owner at.bytes at.index c.read_in_place.new.self second.index
          owner.0 second.bytes owner.1 kind last.index type.0 (w.is_root.ensures.0 w.if-not-is_root.false)
      | else-is_opt-via-else-is_opt w ↦ other_type at.bytes at.index c.read_in_place.new.self second.index owner.0
          second.bytes owner.1 kind last.index type.0 (sym c.is_opt.ensures ∙ w.if-is_opt.false)
    ]

pub returns-in_err-read_body-clause-read : goal.returns-in_err-read_body-clause-read
returns-in_err-read_body-clause-read c =
    let p = err_from_is_err_and c.from_residual-in_err-read_body.result c.from_residual-in_err-read_body.ensures.1 in
    let last = c.read.new.decoder in
    let fault = c.in_err-read_body.field-0.0 in
    let same = c.in_ok-record_type.ensures.read.1 ∙ c.in_ok-read_in_place.ensures.read.1 in
    rw (p.1, p.2) (subst (Fails fault) (is_record (goal.at.returns-in_err-read_body-clause-read c).After-read_body)
    (subst (λ (bytes : List ℕ). Fails fault (body_at c.read_in_place.new.self c.in_ok-record_type.record_type bytes
    last.index)) same c.in_err-read_body.ensures.read))

pub returns-in_err-read_body-clause-tracks : goal.returns-in_err-read_body-clause-tracks
returns-in_err-read_body-clause-tracks c =
    rw (err_from_is_err_and c.from_residual-in_err-read_body.result c.from_residual-in_err-read_body.ensures.1).1
    (bounded_after c.read_body.new.decoder (tracked_both c.in_ok-read_in_place.ensures.tracks
    c.in_ok-record_type.ensures.tracks)
    c.in_err-read_body.ensures.tracks)

pub returns-clause-read : goal.returns-clause-read
returns-clause-read c =
    let at = c.args.decoder.now in
    let second = c.read_in_place.new.decoder in
    let owner = c.in_ok-read_in_place.ensures.read in
    let last = c.read.new.decoder in
    let kind = c.in_ok-record_type.record_type in
    let type = c.in_ok-record_type.ensures.read in
    let same = type.1 ∙ owner.1 in
    record_read at.bytes at.index c.read_in_place.new.self second.index owner.0 second.bytes owner.1 kind last.index type.0 at
    last c.read_body.new.decoder (Ok c.read_body.new.self) same
    (subst (λ (bytes : List ℕ). Reads (λ x. x) last c.read_body.new.decoder (Ok c.read_body.new.self)
    (body_at c.read_in_place.new.self kind bytes last.index)) same c.in_ok-read_body.ensures.read)
    (is_record (goal.at.returns-clause-read c).After-read_body)

pub returns-clause-tracks : goal.returns-clause-tracks
returns-clause-tracks c =
    let head = tracked_both c.in_ok-read_in_place.ensures.tracks c.in_ok-record_type.ensures.tracks in
    record_tracks c.read_in_place.new.decoder c.read_body.new.decoder (Ok c.read_body.new.self)
    c.in_ok-read_in_place.ensures.read.0
    c.in_ok-record_type.ensures.read.0 head (returns-clause-read c) c.in_ok-read_body.ensures.tracks
