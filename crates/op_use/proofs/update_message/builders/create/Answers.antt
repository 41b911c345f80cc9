use Rattle.std.proofs.Common.{rules}
use Rattle.op.specs.Fits.{Fits}
use Rattle.op_use.specs.SoundSet.{IsSendable}
use Rattle.op_use.specs.UpdateMeaning.{CreatesSet}
use Rattle.op_use.proofs.BuiltLemmas.{create_fits, creates_set, of_built}
use Rattle.op_use.proofs.update_message.builders.create.Goals as goal

pub returns-clause-built : goal.returns-clause-built
returns-clause-built c = search rules

pub returns-clause-fits : goal.returns-clause-fits
returns-clause-fits c =
    of_built (λ m. IsSendable c.args.origin c.args.rrset → Fits m) _ c.update.result (returns-clause-built c)
    (create_fits c.args.id c.args.rrset c.args.origin c.args.use_edns)

pub returns-clause-means : goal.returns-clause-means
returns-clause-means c =
    of_built (λ m. CreatesSet c.args.rrset c.args.origin m) _ c.update.result (returns-clause-built c)
    (creates_set c.args.id c.args.rrset c.args.origin c.args.use_edns)
