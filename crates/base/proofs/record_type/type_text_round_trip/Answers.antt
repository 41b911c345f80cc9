use Rattle.base.proofs.texts.TypeTexts.{type_text-read, is_named-read}
use Rattle.base.proofs.record_type.type_text_round_trip.Goals as goal

pub returns-clause-read : goal.returns-clause-read
returns-clause-read c = type_text-read

pub returns-clause-named : goal.returns-clause-named
returns-clause-named c = is_named-read
