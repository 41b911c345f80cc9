use Rattle.std.proofs.Common.{◌∙◌, rules}
use Rattle.std.proofs.lemmas.Result.{err_from_is_err_and}
use Rattle.base.proofs.reading.TrackLemmas.{bounded_after, tracked_both}
use Rattle.op.specs.Fault.{IsMessageFault}
use Rattle.op.specs.Message.{message_at, message_value}
use Rattle.op.proofs.reading.AddsMessage.{adds_message, reads_message}
use Rattle.op.proofs.reading.BufferLemmas.{first_fault}
use Rattle.op.proofs.reading.MessageFaults.{refuses_message}
use Rattle.op.proofs.message.Message.read.Goals as goal

pub returns-clause-tracks : goal.returns-clause-tracks
returns-clause-tracks c =
    let header = c.in_ok-header.ensures in
    let questions = c.in_ok-queries.ensures in
    adds_message header.read.0 questions.read.0 c.from.ensures header.tracks questions.tracks
    c.in_ok-read_sections.ensures.tracks

pub returns-clause-read : goal.returns-clause-read
returns-clause-read c =
    let header = c.in_ok-header.ensures.read in
    let questions = c.in_ok-queries.ensures.read in
    let records = c.in_ok-read_sections.ensures.read in (
      reads_message c.args.decoder.now.index header.0 header.1 questions.0 c.from.ensures questions.1 records.0,
      records.1 ∙ questions.1 ∙ header.1,
    )

pub returns-in_err-header-clause-read : goal.returns-in_err-header-clause-read
unfolding message_at
returns-in_err-header-clause-read c = search rules

pub returns-in_err-header-clause-fault : goal.returns-in_err-header-clause-fault
returns-in_err-header-clause-fault c =
    let at = c.args.decoder.now in
    first_fault message_value (IsMessageFault at.bytes at.index) at c.read.new.decoder
    (λ f. (refuses_message at.bytes at.index f).0) c.from_residual.result (returns-in_err-header-clause-read c)

pub returns-in_err-queries-clause-read : goal.returns-in_err-queries-clause-read
unfolding message_at
returns-in_err-queries-clause-read c = search rules

pub returns-in_err-queries-clause-fault : goal.returns-in_err-queries-clause-fault
returns-in_err-queries-clause-fault c =
    let at = c.args.decoder.now in
    first_fault message_value (IsMessageFault at.bytes at.index) at c.read_many.new.decoder
    (λ f. (refuses_message at.bytes at.index f).0) c.from_residual-in_err-queries.result
    (returns-in_err-queries-clause-read c)

pub returns-in_err-queries-clause-tracks : goal.returns-in_err-queries-clause-tracks
returns-in_err-queries-clause-tracks c =
    rw (err_from_is_err_and c.from_residual-in_err-queries.result c.from_residual-in_err-queries.ensures.1).1
    (bounded_after c.read_many.new.decoder c.in_ok-header.ensures.tracks c.in_err-queries.ensures.tracks)

pub returns-in_err-read_sections-clause-read : goal.returns-in_err-read_sections-clause-read
unfolding message_at
returns-in_err-read_sections-clause-read c = search rules

pub returns-in_err-read_sections-clause-fault : goal.returns-in_err-read_sections-clause-fault
returns-in_err-read_sections-clause-fault c =
    let at = c.args.decoder.now in
    first_fault message_value (IsMessageFault at.bytes at.index) at c.read_sections.new.decoder
    (λ f. (refuses_message at.bytes at.index f).0) c.from_residual-in_err-read_sections.result
    (returns-in_err-read_sections-clause-read c)

pub returns-in_err-read_sections-clause-tracks : goal.returns-in_err-read_sections-clause-tracks
returns-in_err-read_sections-clause-tracks c =
    rw (err_from_is_err_and c.from_residual-in_err-read_sections.result
    c.from_residual-in_err-read_sections.ensures.1).1
    (bounded_after c.read_sections.new.decoder
    (tracked_both c.in_ok-header.ensures.tracks c.in_ok-queries.ensures.tracks)
    c.in_err-read_sections.ensures.tracks)
