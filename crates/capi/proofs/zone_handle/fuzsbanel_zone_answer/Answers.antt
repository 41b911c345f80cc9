use Rattle.std.proofs.Common.{of_z, subst, sym, to_z, w64, ℤ, ◌≡◌}
use Rattle.std.proofs.lemmas.Int.{to_z-of_z}
use Rattle.tasks.specs.Asked.{Makes, bytes_made}
use Rattle.capi.proofs.AnswerLemmas.{answered}
use Rattle.capi.specs.Answer.{IsLeft}
use Rattle.capi.specs.Holding.{zone_held, zone_in}
use Rattle.capi.specs.ZoneHandle.{answer_asked, carrier}
use Rattle.capi.proofs.zone_handle.fuzsbanel_zone_answer.Goals as goal

pub returns-in-Some-clause-answer : goal.returns-in-Some-clause-answer
returns-in-Some-clause-answer c =
    let sent = c.answer_asked-sent.result in
    let by = carrier c.args.most c.args.by_stream in
    let told : ℤ = to_z w64 (of_z w64 c.give.result) in
    let same : told ≡ c.give.result = to_z-of_z w64 c.give.result (record { sfits = c.give.type_inv }) in
    let asked = answer_asked (zone_held c.args.handle.now.zone) by c.args.received.now in
    let made : Makes (λ bytes. bytes.items) asked sent =
    subst (λ h. Makes (λ bytes. bytes.items) (answer_asked (zone_held h) by c.args.received.now) sent)
    c.in-Some.ensures.zone
    (subst (λ h. Makes (λ bytes. bytes.items) (answer_asked (zone_in h) by c.args.received.now) sent) c.deref.ensures
    (subst (λ k. Makes (λ bytes. bytes.items) (answer_asked (zone_in c.deref.result.now) k c.args.received.now) sent)
    c.carrier.ensures c.answer_asked-sent.ensures)) in
    answered asked sent c.args.out.now c.give.new.out c.give.new.needed told made
    (subst (IsLeft (bytes_made sent) c.args.out.now c.give.new.out c.give.new.needed) (sym same) c.give.ensures)
