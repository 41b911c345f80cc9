use Rattle.base.proofs.texts.ClassTexts.{class_text-read}
use Rattle.base.proofs.dns_class.class_text_round_trip.Goals as goal

pub returns-clause-read : goal.returns-clause-read
returns-clause-read c = class_text-read
