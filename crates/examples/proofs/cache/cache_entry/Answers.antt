use Rattle.std.proofs.Common.{ap, map, rules, ◌∙◌}
use Rattle.rr.specs.Record.{decremented}
use Rattle.examples.proofs.cache.cache_entry.Goals as goal

pub returns-clause-kept : goal.returns-clause-kept
returns-clause-kept c =
    let found = c.in_ok-response.ensures.found in
    record {
      response = c.in_ok-response.response.message;
      end = found.0.0;
      stands = found.0.1;
      is_response = found.1;
      answers = c.run_down-answers.ensures ∙ ap
          (λ m. map (decremented c.args.seconds) m.answers) c.into_message.ensures;
      negative = search rules;
    }
