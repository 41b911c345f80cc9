use Rattle.std.proofs.Common.{inl, inr, subst}
use Rattle.std.proofs.lemmas.Result.{err_from_is_err_and}
use Rattle.op.specs.Message.{message_value}
use Rattle.examples.proofs.CallerLemmas.{created, unsent}
use Rattle.examples.specs.Callers.{IsNotReceived, IsReceived}
use Rattle.examples.proofs.update.create_in.Goals as goal

pub apply_update-requires : goal.apply_update-requires
apply_update-requires c = c.in_ok-sets.ensures.zone.is_map

pub returns-in_err-bytes-clause-refused : goal.returns-in_err-bytes-clause-refused
returns-in_err-bytes-clause-refused c =
    let p = err_from_is_err_and c.from_residual.result c.from_residual.ensures.1 in
    rw (p.1, p.2) (inl c.in_err-bytes.ensures.refused)

pub returns-in_err-update-clause-refused : goal.returns-in_err-update-clause-refused
returns-in_err-update-clause-refused c =
    let p = err_from_is_err_and c.from_residual-in_err-update.result c.from_residual-in_err-update.ensures.1 in
    rw (p.1, p.2) (inl (unsent c.args.origin.now c.args.set c.in_ok-bytes.bytes.items c.in_ok-bytes.ensures.exact
    c.in_ok-bytes.ensures.written c.in_err-update.field-0.0
    (subst (λ bytes. IsNotReceived bytes c.in_err-update.field-0.0) c.deref.ensures.value
    c.in_err-update.ensures.refused)))

pub returns-in_err-sets-clause-refused : goal.returns-in_err-sets-clause-refused
returns-in_err-sets-clause-refused c =
    let p = err_from_is_err_and c.from_residual-in_err-sets.result c.from_residual-in_err-sets.ensures.1 in
    rw (p.1, p.2) (inr c.in_err-sets.ensures.refused)

pub returns-clause-created : goal.returns-clause-created
returns-clause-created c =
    created c.built_updates_apply_as_named.ensures.zones c.built_updates_apply_as_named.ensures.create c.args.origin.now
    c.args.text.now c.args.set c.in_ok-bytes.bytes.items
    (message_value c.in_ok-update.update) c.in_ok-sets.sets c.in_ok-apply_update.field-0.1
    c.in_ok-apply_update.field-0.0 c.requires c.in_ok-bytes.ensures.written
    (subst (λ bytes. IsReceived bytes (message_value c.in_ok-update.update)) c.deref.ensures.value
    c.in_ok-update.ensures.whole) c.in_ok-sets.ensures.zone c.in_ok-apply_update.ensures.applied
