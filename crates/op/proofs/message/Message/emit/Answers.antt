use Rattle.std.proofs.Common.{◌∙◌, ap, length, rules, sym, Ok}
use Rattle.std.specs.Option.{option_copied}
use Rattle.std.specs.Prelude.{drop}
use Rattle.std.proofs.Math.Seq.{drop-append_seam}
use Rattle.base.specs.writing.State.{State}
use Rattle.base.specs.writing.Wire.{state_of}
use Rattle.op.proofs.writing.CutOf.{written_at_start}
use Rattle.op.proofs.writing.EmittedLemmas.{AreOf, IsDone, Left, done_answers, outcome_of, raised_edns, unboxed}
use Rattle.op.specs.Fits.{opt_records, signature_records}
use Rattle.op.specs.Message.{message_value}
use Rattle.op.specs.MessageWritten.{message_written}
use Rattle.op.proofs.message.Message.emit.Goals.{After-emit_message_parts, After-from_residual}
use Rattle.op.proofs.message.Message.emit.Goals.{In_ok-emit_message_parts}
use Rattle.op.proofs.message.Message.emit.Goals as goal

-- the parts that were written are those of the message
are_of : (c : After-emit_message_parts) → AreOf
    (message_value c.args.self.now) c.iter.result c.iter-2.result c.iter-3.result c.iter-4.result
    (opt_records c.args.self.now.metadata.response_code (option_copied c.as_ref.result))
    (signature_records (option_copied c.as_deref.result))
are_of c = record {
  queries = c.iter.ensures.rest ∙ c.deref.ensures.value;
  answers = c.iter-2.ensures.rest ∙ c.deref-2.ensures.value;
  authorities = c.iter-3.ensures.rest ∙ c.deref-3.ensures.value;
  additionals = c.iter-4.ensures.rest ∙ c.deref-4.ensures.value;
  edns_is = raised_edns (message_value c.args.self.now) _ c.as_ref.ensures.value;
  signature_is = ap signature_records (unboxed
      (λ b. b.value) c.args.self.now.signature c.as_deref.result c.as_deref.ensures.cases);
}

-- the message was written
done : (c : In_ok-emit_message_parts)
    → IsDone (message_value c.args.self.now) (state_of c.args.encoder.now) (state_of c.emit_message_parts.new.encoder)
done c = outcome_of (message_value c.args.self.now) _ _
    (are_of (goal.at.In_ok-emit_message_parts c).After-emit_message_parts) c.emit_message_parts.ensures.narrow
    c.in_ok-emit_message_parts.ensures.run

pub returns-clause-answer : goal.returns-clause-answer
returns-clause-answer c =
    let m = message_value c.args.self.now in
    let old = state_of c.args.encoder.now in
    let is = done c in
    let bytes = ap (λ (s : State). drop (length old.bytes) s.bytes) is.exact
    ∙ drop-append_seam old.bytes (message_written old.limit m (length old.bytes) old.suffixes).bytes in
    (done_answers m old _ is ∙ ap Ok (sym bytes), is.exact)

pub returns-clause-written : goal.returns-clause-written
returns-clause-written c fits empty none =
    let is = done c in
    written_at_start (message_value c.args.self.now) (state_of c.args.encoder.now)
    (state_of c.emit_message_parts.new.encoder) fits empty none c.emit_message_parts.ensures.narrow is.id is.kept
    (done_answers (message_value c.args.self.now) _ _ is) is.exact

-- the message was refused
refused : (c : After-from_residual)
    → Left (message_value c.args.self.now) (state_of c.args.encoder.now) (state_of c.emit_message_parts.new.encoder)
    c.in_err-emit_message_parts.field-0.0 (state_of c.emit_message_parts.new.encoder)
refused c = outcome_of (message_value c.args.self.now) (state_of c.args.encoder.now)
    (state_of c.emit_message_parts.new.encoder) (are_of (goal.at.After-from_residual c).After-emit_message_parts)
    c.emit_message_parts.ensures.narrow c.in_err-emit_message_parts.ensures.run

pub returns-in_err-emit_message_parts-clause-refused : goal.returns-in_err-emit_message_parts-clause-refused
returns-in_err-emit_message_parts-clause-refused c =
    let left = refused c in
    search rules
