use Rattle.std.proofs.Common.{List, Ok, inl, sym, subst, ℕ}
use Rattle.std.proofs.lemmas.Result.{err_from_is_err_and}
use Rattle.std.specs.Prelude.{Option, option_map}
use Rattle.authority.specs.declared.transferring.TransferPlace.{TransferPlace}
use Rattle.op.specs.Message.{MessageValue, message_value}
use Rattle.op.specs.declared.message.Message.{Message}
use Rattle.tasks.proofs.RefusalLemmas.{refusal_comes}
use Rattle.capi.proofs.ServedLemmas.{too_large_in, unsent_in}
use Rattle.capi.specs.ZoneTransfer.{IsNextIn, IsServed}
use Rattle.capi.specs.ZoneTransfer.IsServed.{malformed, misplaced, sent, silent}
use Rattle.capi.proofs.zone_handle.transfer.next_message.Goals as goal

-- a message and a place, as contracts see them
abbrev seen : Option (Message × TransferPlace) → Option (MessageValue × TransferPlace)
seen = option_map (λ r. (message_value r.0, r.1))

pub returns-in_err-query : goal.returns-in_err-query
returns-in_err-query c =
    let p = err_from_is_err_and c.from_residual.result c.from_residual.ensures.1 in
    rw (p.1, p.2) (refusal_comes (IsServed c.args.zone.now c.args.query.now c.args.kept.now)
    c.in_err-query.field-0.0.number c.in_err-query.ensures (λ is. malformed is))

pub returns-in_err-place : goal.returns-in_err-place
returns-in_err-place c =
    let p = err_from_is_err_and c.from_residual-in_err-place.result c.from_residual-in_err-place.ensures.1 in
    rw (p.1, p.2) (refusal_comes (IsServed c.args.zone.now c.args.query.now c.args.kept.now)
    c.in_err-place.field-0.0.number c.in_err-place.ensures (λ is. misplaced is))

pub returns-in_err-to_vec-in-Ok-Some : goal.returns-in_err-to_vec-in-Ok-Some
returns-in_err-to_vec-in-Ok-Some c =
    let p = err_from_is_err_and c.from_residual-in_err-to_vec-in-Ok-Some.result
    c.from_residual-in_err-to_vec-in-Ok-Some.ensures.1 in
    rw (p.1, p.2) (unsent_in c.args.zone.now c.args.query.now c.args.kept.now (message_value c.in_ok-query.query)
    c.in_ok-place.place (record { asks = c.in_ok-query.ensures; goes_on = c.in_ok-place.ensures })
    (message_value c.in-Ok-Some.message) c.in-Ok-Some.next
    (subst (λ o. IsNextIn c.args.zone.now (message_value c.in_ok-query.query) c.in_ok-place.place (seen o))
    c.in-Ok-Some.field-0-is c.in-Ok-Some.ensures.transferred)
    c.in_err-to_vec-in-Ok-Some.field-0.0 c.in_err-to_vec-in-Ok-Some.ensures.refusal)

pub returns-in-Ok-Some : goal.returns-in-Ok-Some
returns-in-Ok-Some c = inl (sent (message_value c.in_ok-query.query) (message_value c.in-Ok-Some.message)
    c.in_ok-place.place c.in-Ok-Some.next (record { asks = c.in_ok-query.ensures; goes_on = c.in_ok-place.ensures })
    (subst (λ o. IsNextIn c.args.zone.now (message_value c.in_ok-query.query) c.in_ok-place.place (seen o))
    c.in-Ok-Some.field-0-is c.in-Ok-Some.ensures.transferred)
    c.in_ok-to_vec-in-Ok-Some.ensures.answer c.of.ensures)

pub returns-in-Ok-None : goal.returns-in-Ok-None
returns-in-Ok-None c = inl (subst
    (λ (xs : List ℕ). IsServed c.args.zone.now c.args.query.now c.args.kept.now (Ok (xs, c.args.kept.now)))
    (sym c.new.ensures.items) (silent (message_value c.in_ok-query.query) c.in_ok-place.place
    (record { asks = c.in_ok-query.ensures; goes_on = c.in_ok-place.ensures })
    (subst (λ o. IsNextIn c.args.zone.now (message_value c.in_ok-query.query) c.in_ok-place.place (seen o))
    c.in-Ok-None.field-0-is c.in-Ok-None.ensures.transferred)))

pub returns-in-Err-MaxBufferSizeExceeded : goal.returns-in-Err-MaxBufferSizeExceeded
returns-in-Err-MaxBufferSizeExceeded c =
    too_large_in c.args.zone.now c.args.query.now c.args.kept.now (message_value c.in_ok-query.query)
    c.in_ok-place.place (record { asks = c.in_ok-query.ensures; goes_on = c.in_ok-place.ensures })
    c.in-Err-MaxBufferSizeExceeded.field-0 c.in-Err-MaxBufferSizeExceeded.field-0-is
    c.in-Err-MaxBufferSizeExceeded.ensures.refused
