use Rattle.op.specs.Message.{message_value}
use Rattle.op_use.proofs.OutcomeSteps.{outcome_fits, outcome_is}
use Rattle.op_use.proofs.WholeSteps.{applied_all, applied_fault, applied_not}
use Rattle.op_use.proofs.apply.find_answer.Goals as goal
use Rattle.op_use.specs.HeldZone.{HeldZone}
use Rattle.op_use.specs.Outcome.{UpdatesTo}
use Rattle.op_use.specs.Server.{sections_of}
use Rattle.base_data.specs.declared.rdata.RData.{RData}
use Rattle.rr.specs.declared.record.Record.{Record}
use Rattle.std.proofs.Common.{List, subst, sym, ◌∙◌}

pub invariant_of-zone : goal.invariant_of-zone
invariant_of-zone c = c.requires

pub returns-then-not-is_supported : goal.returns-then-not-is_supported
returns-then-not-is_supported c =
    applied_not c.args.origin.now c.args.class c.args.sets.now
    (sections_of (message_value c.args.message.now)) c.requires
    (sym c.is_supported.ensures ∙ c.if-not-is_supported.true)

pub returns-in-Some : goal.returns-in-Some
returns-in-Some c =
    applied_fault c.args.origin.now c.args.class c.args.sets.now
    (sections_of (message_value c.args.message.now)) c.in-Some.code c.requires
    (sym c.is_supported.ensures ∙ c.if-not-is_supported.false) (sym c.in_ok-code.ensures ∙ c.in-Some.is)

pub returns : goal.returns
returns c =
    let s = sections_of (message_value c.args.message.now) in
    let origin = c.args.origin.now in
    let class = c.args.class in
    let sets = c.args.sets.now in
    let z : HeldZone = record { origin = origin; class = class; sets = sets } in
    let updates : UpdatesTo s.updates z c.in_ok-outcome.outcome = subst (λ (rs : List (Record RData)).
    UpdatesTo rs z c.in_ok-outcome.outcome) c.deref.ensures.value c.in_ok-outcome.ensures in (
      outcome_fits s.updates z c.in_ok-outcome.outcome updates,
      λ new installs.
          let both = outcome_is s.updates z c.in_ok-outcome.outcome updates new installs in
          applied_all origin class sets new s c.requires (sym c.is_supported.ensures ∙ c.if-not-is_supported.false)
          (sym c.in_ok-code.ensures ∙ c.in_default.is) both.0 both.1,
    )
