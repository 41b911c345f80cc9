use Rattle.std.proofs.Common.{rules, inl, refl}
use Rattle.std.proofs.lemmas.Result.{err_from_is_err_and}
use Rattle.op.specs.Fits.{Fits}
use Rattle.op.specs.Header.{IsHeaderAt}
use Rattle.op.specs.Message.{message_value}
use Rattle.tasks.proofs.RefusalLemmas.{not_fitting}
use Rattle.tasks.proofs.SentLemmas.{all_written, part_written, unsent}
use Rattle.tasks.specs.Update.IsSent.{cut, unfit, whole}
use Rattle.tasks.proofs.update.built.whole_bytes.Goals as goal

pub returns-then-not-fits_wire-clause-sent : goal.returns-then-not-fits_wire-clause-sent
returns-then-not-fits_wire-clause-sent c =
    inl (unfit refl (not_fitting (Fits (message_value c.args.message.now)) c.fits_wire.result c.fits_wire.ensures.fits.1
    c.if-not-fits_wire.true))

pub returns-in_err-bytes-clause-sent : goal.returns-in_err-bytes-clause-sent
returns-in_err-bytes-clause-sent c =
    let p = err_from_is_err_and c.from_residual.result c.from_residual.ensures.1 in
    rw (p.1, p.2) (unsent (message_value c.args.message.now) c.in_err-bytes.field-0.0 c.in_err-bytes.ensures.refusal)

pub returns-then-header-clause-sent : goal.returns-then-header-clause-sent
returns-then-header-clause-sent c =
    let fits : Fits (message_value c.args.message.now) = c.fits_wire.ensures.fits.0 (search rules) in
    let stands : IsHeaderAt c.in_ok-bytes.bytes.items 0 c.in_ok-header.header = search rules in
    inl (cut refl (part_written (message_value c.args.message.now) c.in_ok-bytes.bytes.items
    c.in_ok-bytes.ensures.answer
    (c.in_ok-bytes.ensures.written fits) c.in_ok-header.header stands c.if-header.true))

pub returns-clause-sent : goal.returns-clause-sent
returns-clause-sent c =
    let fits : Fits (message_value c.args.message.now) = c.fits_wire.ensures.fits.0 (search rules) in
    let stands : IsHeaderAt c.in_ok-bytes.bytes.items 0 c.in_ok-header.header = search rules in
    inl (whole refl (all_written (message_value c.args.message.now) c.in_ok-bytes.bytes.items
    c.in_ok-bytes.ensures.answer
    (c.in_ok-bytes.ensures.written fits) c.in_ok-header.header stands c.if-header.false))

pub returns-clause-whole : goal.returns-clause-whole
returns-clause-whole c =
    let fits : Fits (message_value c.args.message.now) = c.fits_wire.ensures.fits.0 (search rules) in
    let stands : IsHeaderAt c.in_ok-bytes.bytes.items 0 c.in_ok-header.header = search rules in
    all_written (message_value c.args.message.now) c.in_ok-bytes.bytes.items c.in_ok-bytes.ensures.answer
    (c.in_ok-bytes.ensures.written fits) c.in_ok-header.header stands c.if-header.false
