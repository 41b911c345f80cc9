use Rattle.base_data.proofs.StringGrammar.{string_grammar}
use Rattle.base_data.proofs.rdata.laws.strings_are_their_pieces.Goals as goal

pub returns : goal.returns
returns c = string_grammar
