use Rattle.base.proofs.texts.TokenLemmas.{symbols_are}
use Rattle.base.proofs.text.laws.tokens_come_in_turn.Goals as goal

pub returns : goal.returns
returns c = symbols_are
