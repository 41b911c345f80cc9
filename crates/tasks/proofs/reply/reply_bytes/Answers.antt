use Rattle.std.proofs.Common.{inl, rules}
use Rattle.std.proofs.lemmas.Result.{err_from_is_err_and}
use Rattle.op.specs.Fits.{Fits}
use Rattle.op.specs.Message.{message_value}
use Rattle.tasks.proofs.RefusalLemmas.{not_fitting, refusal_comes}
use Rattle.tasks.proofs.ReplyLemmas.{unbuilt}
use Rattle.tasks.specs.Reply.{IsBuilt, reply_asked}
use Rattle.tasks.specs.Reply.IsBuilt.{cut, refused, unfit}
use Rattle.tasks.proofs.reply.reply_bytes.Goals as goal

pub returns-in_err-limit : goal.returns-in_err-limit
returns-in_err-limit c =
    let p = err_from_is_err_and c.from_residual.result c.from_residual.ensures.1 in
    let asked = reply_asked c.args.query.now c.args.says c.args.by c.args.answers.now c.args.authorities.now
    c.args.additionals.now in
    rw (p.1, p.2) (refusal_comes (IsBuilt asked) c.in_err-limit.field-0.0.number c.in_err-limit.ensures
    (λ is. refused is))

pub returns-then-not-fits_wire : goal.returns-then-not-fits_wire
returns-then-not-fits_wire c =
    inl (unfit c.in_ok-limit.ensures (not_fitting (Fits (message_value c.in_ok-limit.reply)) c.fits_wire.result
    c.fits_wire.ensures.fits.1 c.if-not-fits_wire.true))

pub returns-in_err-to_vec_within : goal.returns-in_err-to_vec_within
returns-in_err-to_vec_within c =
    let p = err_from_is_err_and c.from_residual-in_err-to_vec_within.result
    c.from_residual-in_err-to_vec_within.ensures.1 in
    let asked = reply_asked c.args.query.now c.args.says c.args.by c.args.answers.now c.args.authorities.now
    c.args.additionals.now in
    rw (p.1, p.2) (unbuilt asked c.in_ok-limit.limit (message_value c.in_ok-limit.reply)
    c.in_err-to_vec_within.field-0.0 c.in_ok-limit.ensures c.in_err-to_vec_within.ensures.refusal)

pub returns : goal.returns
returns c =
    let fits : Fits (message_value c.in_ok-limit.reply) = c.fits_wire.ensures.fits.0 (search rules) in
    inl (cut c.in_ok-limit.ensures c.in_ok-to_vec_within.ensures.answer (c.in_ok-to_vec_within.ensures.written fits))
