use Rattle.std.proofs.Common.{Ok, ap, sym, ◌∙◌}
use Rattle.op.specs.Message.{message_value}
use Rattle.commands.proofs.ApplyLemmas.{update_read}
use Rattle.commands.specs.HexInput.{bytes_of}
use Rattle.commands.specs.Words.{as_bytes}
use Rattle.commands.proofs.apply_command.update.Goals as goal

pub returns-clause-read : goal.returns-clause-read
returns-clause-read c =
    let found = c.in_ok-from_vec.ensures.found in
    update_read (as_bytes c.args.words.now) c.deref.result.now (message_value c.in_ok-from_vec.field-0) found.0
    (ap bytes_of (sym (c.as_bytes.ensures.value ∙ c.first_word.ensures)) ∙ c.in_ok-bytes.ensures
    ∙ ap Ok (sym c.deref.ensures.value)) found.1
