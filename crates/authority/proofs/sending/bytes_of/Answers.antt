use Rattle.authority.proofs.sending.bytes_of.Goals as goal
use Rattle.authority.specs.Sent.{bytes_of, is_cut_short, whole_or_less}
use Rattle.base.specs.declared.error.proto_error.ProtoError.TheVariants as refusals
use Rattle.op.specs.Message.{MessageValue, message_value}
use Rattle.op.specs.MessageWritten.{message_answer}
use Rattle.op_use.specs.Responses.{is_empty_list}
use Rattle.std.proofs.Common.{Err, Ok, ap, cond, inl, inr, rules, sym, true, ⊎_elim, ◌&&◌, ◌∙◌, ◌≡◌}
use Rattle.std.proofs.lemmas.Result.{IfErr-weaker, IfOk-weaker}
use Rattle.std.specs.Prelude.{◌⊎◌}

pub returns : goal.returns
returns c =
    let m = message_value c.args.reply.now in
    let limit = c.args.limit in
    let left : MessageValue = record m { additionals = c.clear.new.self.items } in
    let cut : is_cut_short c.in_ok-bytes.bytes.items ≡ true
    = ap is_cut_short (sym c.deref.ensures.value) ∙ sym c.is_cut.ensures ∙ c.if-not-is_cut.false in
    let none : is_empty_list m.authorities ≡ true = search rules in
    let less : bytes_of limit m ≡ message_answer limit left = ap (whole_or_less limit m) c.in_ok-bytes.ensures.answer
    ∙ (λ i. cond (cut i && none i) (message_answer limit (record m { additionals = sym c.clear.ensures.items i }))
    (Ok c.in_ok-bytes.bytes.items)) in
    record {
      bytes = IfOk-weaker c.to_vec_within-2.result (λ v. message_answer limit left ≡ Ok v.items)
          (λ v. bytes_of limit m ≡ Ok v.items) (λ v is. less ∙ is) c.to_vec_within-2.ensures.answer;
      refused = IfErr-weaker c.to_vec_within-2.result
          (λ e. (e ≡ refusals.Memory) ⊎ (message_answer limit left ≡ Err e))
          (λ e. (e ≡ refusals.Memory) ⊎ (bytes_of limit m ≡ Err e))
          (λ e. ⊎_elim inl (λ is. inr (less ∙ is))) c.to_vec_within-2.ensures.refusal;
    }

pub returns-then-not-is_cut-clause-bytes : goal.returns-then-not-is_cut-clause-bytes
returns-then-not-is_cut-clause-bytes c = search rules
