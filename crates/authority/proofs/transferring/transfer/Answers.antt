use Rattle.authority.proofs.transferring.transfer.Goals as goal
use Rattle.authority.specs.Reply.{framed, header_refusal, only_code}
use Rattle.authority.specs.Transfer.{IsStep, IsTransferred, is_silent, one_axfr_refusal, transfer_refusal}
use Rattle.authority.specs.declared.transferring.TransferPlace.TheVariants as places
use Rattle.authority.specs.declared.transferring.TransferPlace.{TransferPlace}
use Rattle.op.specs.Message.{MessageValue, message_value}
use Rattle.op_use.specs.Server.{StepCode, and_then}
use Rattle.op.specs.declared.response_code.ResponseCode.{ResponseCode}
use Rattle.std.proofs.Common.{None, Some, false, option_map, rules, subst, sym, ◌∙◌, ◌≡◌}
use Rattle.std.proofs.lemmas.Result.{IfOk-weaker}

-- the first step that refuses decides
first : (a b more : StepCode) (code : ResponseCode) → and_then a b ≡ Some code
    → and_then a (and_then b more) ≡ Some code
first (Some x) b more code h = h
first None (Some x) more code h = h
first None None more code h = cc

pub returns-in-Some : goal.returns-in-Some
returns-in-Some c =
    let origin = c.args.origin.now in
    let sets = c.args.sets.now in
    let m = message_value c.args.query.now in
    let place = c.args.place.now in
    let loud : is_silent m place ≡ false = search rules in
    let refusal : transfer_refusal origin c.args.class sets m ≡ Some c.in-Some.code
    = first (header_refusal m) (one_axfr_refusal origin c.args.class m.queries) _ c.in-Some.code
    (sym c.refusal.ensures ∙ c.in-Some.is) in
    record {
      transferred = IfOk-weaker c.refused.result
          (λ o. option_map {U = MessageValue × TransferPlace} (λ r. (message_value r.0, r.1)) o
          ≡ Some (framed m (only_code c.in-Some.code), places.End))
          (λ o. IsTransferred origin c.args.class sets m place (option_map (λ r. (message_value r.0, r.1)) o))
          (λ o is. subst (λ b. IsStep origin c.args.class sets m place b (transfer_refusal origin c.args.class sets m)
          (option_map
          (λ r. (message_value r.0, r.1)) o)) (sym loud)
          (subst (λ (s : StepCode). IsStep origin c.args.class sets m place
          false s (option_map (λ r. (message_value r.0, r.1)) o)) (sym refusal) is)) c.refused.ensures.refused;
      refused = search rules;
    }
