use Rattle.authority.proofs.AnswerLemmas.{data_with}
use Rattle.authority.proofs.answer.answer_with.Goals as goal
use Rattle.authority.specs.ZoneRef.{zone_of}
use Rattle.op_use.proofs.TypeSteps.{any_is}
use Rattle.op_use.specs.Server.{is_any}
use Rattle.std.proofs.Common.{ap, arith, false, length, sym, ◌<◌, ◌∙◌, ◌≡◌}
use Rattle.std.proofs.lemmas.List.{length-append}

pub returns-clause-value : goal.returns-clause-value
returns-clause-value c = λ done rs added place.
    let zone = c.args.zone.now in
    let items = c.args.answers.items in
    let other : is_any c.args.record_type ≡ false = any_is c.args.record_type ∙ sym c.eq.ensures ∙ c.if-eq.false in
    let some : 0 < length rs = omega (arith, ap length added, length-append done rs) in
    data_with (zone_of zone) c.args.record_type done c.args.name.now rs items c.args.before added place
    c.deref.result.now c.deref-2.result.now c.new.result.items c.in_ok-additionals.additionals.items
    c.deref.ensures.value c.deref-2.ensures.value c.new.ensures.items some other c.in_ok-additionals.ensures.added
