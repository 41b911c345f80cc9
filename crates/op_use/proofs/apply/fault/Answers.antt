use Rattle.op.specs.Message.{message_value}
use Rattle.op_use.proofs.apply.fault.Goals as goal
use Rattle.op_use.specs.HeldZone.{zone_held}
use Rattle.op_use.specs.Server.{and_then, first_fault, prerequisites_fault, prescan_fault, sections_of, zone_fault}
use Rattle.std.proofs.Common.{ap, sym, ◌∙◌}

pub returns-in-Some : goal.returns-in-Some
returns-in-Some c =
    let z = zone_held c.args.zone.now in
    let s = sections_of (message_value c.args.message.now) in
    sym (ap (λ f. and_then f (and_then (prerequisites_fault z s.prerequisites)
    (first_fault (prescan_fault z) s.updates)))
    (ap (zone_fault z) (sym c.deref.ensures.value) ∙ sym c.zone_fault.ensures ∙ c.in-Some.is))

pub returns-in-Some-2 : goal.returns-in-Some-2
returns-in-Some-2 c =
    let z = zone_held c.args.zone.now in
    let s = sections_of (message_value c.args.message.now) in
    sym (λ i. and_then
    ((ap (zone_fault z) (sym c.deref.ensures.value) ∙ sym c.zone_fault.ensures ∙ c.in_default.is) i) (and_then
    ((ap (prerequisites_fault z) (sym c.deref-2.ensures.value) ∙ sym c.in_ok-code.ensures ∙ c.in-Some-2.is) i)
    (first_fault (prescan_fault z) s.updates)))

pub returns : goal.returns
returns c =
    let z = zone_held c.args.zone.now in
    c.prescan_fault.ensures ∙ ap (first_fault (prescan_fault z)) c.deref-3.ensures.value
    ∙ sym (λ i. and_then
    ((ap (zone_fault z) (sym c.deref.ensures.value) ∙ sym c.zone_fault.ensures ∙ c.in_default.is) i) (and_then
    ((ap (prerequisites_fault z) (sym c.deref-2.ensures.value) ∙ sym c.in_ok-code.ensures ∙ c.in_default-2.is) i)
    (first_fault (prescan_fault z) (sections_of (message_value c.args.message.now)).updates)))
