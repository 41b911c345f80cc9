use Rattle.op.proofs.reading.ReadFits.{message_fits}
use Rattle.op.proofs.writing.UncutLemmas.{uncut_same}
use Rattle.op.proofs.message.laws.what_is_read_fits.Goals as goal

pub returns-clause-fits : goal.returns-clause-fits
returns-clause-fits c = message_fits

pub returns-clause-uncut : goal.returns-clause-uncut
returns-clause-uncut c B i m e w bytes limit C d k uncut = uncut_same B i m e w bytes limit C d k uncut
