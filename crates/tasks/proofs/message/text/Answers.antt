use Rattle.std.proofs.Common.{ap, sym, ℕ, ◌∙◌, Ok}
use Rattle.std.specs.Prelude.{Vec}
use Rattle.std.specs.declared.alloc.Global.{Global}
use Rattle.op.specs.Message.{MessageValue}
use Rattle.op.specs.MessageText.{message_text}
use Rattle.tasks.specs.Asked.{Asked, ◌>>=◌}
use Rattle.tasks.proofs.message.text.Goals as goal

pub returns : goal.returns
returns c =
    ap (λ (asked : Asked MessageValue). asked >>= λ m. Ok (message_text m)) c.in_ok-message.ensures
    ∙ ap Ok (sym c.in_ok-to_string.ensures.ok)
    ∙ ap (λ (text : Vec ℕ Global). Ok text.items) (sym c.into_bytes.ensures.value)
