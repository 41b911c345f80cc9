use Rattle.std.proofs.Common.{rules, subst}
use Rattle.authority.specs.declared.sending.Carrier.{Carrier}
use Rattle.tasks.specs.Asked.{MakesBy}
use Rattle.tasks.specs.Reply.{IsBuilt, reply_asked}
use Rattle.tasks.specs.declared.reply.Says.{Says}
use Rattle.capi.proofs.AnswerLemmas.{answered_by}
use Rattle.capi.specs.Answer.{IsAnsweredBy}
use Rattle.capi.specs.ZoneHandle.{carrier}
use Rattle.capi.proofs.reply.fuzsbanel_build_response.Goals as goal

pub returns : goal.returns
returns c =
    let says : Says = record {
      code = c.args.code;
      authoritative = c.args.authoritative;
      recursion_available = c.args.recursion_available;
    } in
    let Comes = λ (by : Carrier). IsBuilt (reply_asked c.args.query.now says by c.args.answers.now
    c.args.authorities.now c.args.additionals.now) in
    let by = carrier c.args.most c.args.by_stream in
    let made : MakesBy (Comes by) c.reply_bytes.result =
    subst (λ (k : Carrier). MakesBy (Comes k) c.reply_bytes.result) c.carrier.ensures c.reply_bytes.ensures in
    let answered : IsAnsweredBy (Comes by) c.args.out.now c.give.new.out c.give.new.needed c.give.result =
    answered_by (Comes by) c.reply_bytes.result c.args.out.now c.give.new.out c.give.new.needed c.give.result made
    c.give.ensures in
    search rules
