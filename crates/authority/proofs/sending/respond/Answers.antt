use Rattle.authority.proofs.sending.respond.Goals as goal
use Rattle.authority.specs.Sent.{sent, sent_by, sent_to}
use Rattle.authority.specs.declared.sending.Carrier.{Carrier}
use Rattle.base.specs.declared.error.proto_error.ProtoError.TheVariants as refusals
use Rattle.op.proofs.reading.MessageStands.{reads_message}
use Rattle.op.specs.Message.{IsMessageAt, MessageValue, message_value}
use Rattle.op_use.specs.Applying.{zone_of_map}
use Rattle.op_use.specs.Zone.{Zone}
use Rattle.std.proofs.Common.{Err, List, Ok, ap, inl, inr, ⊎_elim, ℕ, ◌∙◌, ◌≡◌}
use Rattle.std.proofs.lemmas.Result.{IfErr-weaker, IfOk-weaker}
use Rattle.std.specs.Prelude.{option_map, ◌⊎◌}

-- what is sent for bytes that begin with a message
sent_for : (z : Zone) (carrier : Carrier) (bytes : List ℕ) (m : MessageValue)
    (found : (e : ℕ) × IsMessageAt bytes 0 m e)
    → sent z carrier bytes ≡ sent_to z carrier m
sent_for z carrier bytes m found = ap (sent_by z carrier bytes) ((reads_message bytes 0 m found.0).1 found.1)

pub returns-in-Ok-clause-sent : goal.returns-in-Ok-clause-sent
returns-in-Ok-clause-sent c =
    let z = zone_of_map c.args.origin.now c.args.class c.args.sets.now in
    let bytes = c.args.received.now in
    let m = message_value c.in-Ok.query in
    IfOk-weaker c.respond_to.result
    (λ o. sent_to z c.args.carrier m ≡ Ok (option_map (λ v. v.items) o))
    (λ o. sent z c.args.carrier bytes ≡ Ok (option_map (λ v. v.items) o))
    (λ o is. sent_for z c.args.carrier bytes m c.in-Ok.ensures.found ∙ is) c.respond_to.ensures.sent

pub returns-in-Ok-clause-refused : goal.returns-in-Ok-clause-refused
returns-in-Ok-clause-refused c =
    let z = zone_of_map c.args.origin.now c.args.class c.args.sets.now in
    let bytes = c.args.received.now in
    let m = message_value c.in-Ok.query in
    IfErr-weaker c.respond_to.result
    (λ e. (e ≡ refusals.Memory) ⊎ (sent_to z c.args.carrier m ≡ Err e))
    (λ e. (e ≡ refusals.Memory) ⊎ (sent z c.args.carrier bytes ≡ Err e))
    (λ e. ⊎_elim inl (λ is. inr (sent_for z c.args.carrier bytes m c.in-Ok.ensures.found ∙ is)))
    c.respond_to.ensures.refused
