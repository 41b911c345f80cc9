use Rattle.std.proofs.Common.{◌≡◌, rules, subst}
use Rattle.std.specs.Option.{option_copied}
use Rattle.std.specs.Prelude.{All}
use Rattle.rr.specs.RecordSays.{KeptRecord}
use Rattle.op.proofs.writing.EmittedLemmas.{raised_edns}
use Rattle.op.specs.Message.{MessageValue, message_value}
use Rattle.op.proofs.message.Message.fits_wire.Goals as goal

pub returns-then-edns_fits-clause-kept : goal.returns-then-edns_fits-clause-kept
returns-then-edns_fits-clause-kept c = λ yes.
    let m : MessageValue = message_value c.args.self.now in
    let seen : option_copied c.as_ref.result ≡ m.edns = search rules in
    record {
      id = search rules;
      queries = search rules;
      answers = search rules;
      authorities = search rules;
      additionals = search rules;
      edns = subst (All KeptRecord) (raised_edns m _ seen)
          (c.edns_fits.ensures.kept (search rules) m.metadata.response_code);
      signature = search rules;
    }
