use Rattle.std.proofs.Common.{arith}
use Rattle.std.proofs.lemmas.Grind.{common_steps}
use Rattle.op.specs.Fits.{Fits}
use Rattle.op_use.specs.SoundSet.{IsSendable}
use Rattle.op_use.specs.UpdateMeaning.{DeletesData}
use Rattle.op_use.proofs.BuiltLemmas.{delete_by_rdata_fits, deletes_data, of_built}
use Rattle.op_use.proofs.update_message.builders.delete_by_rdata.Goals as goal

pub returns-clause-built : goal.returns-clause-built
returns-clause-built c = grind (arith, common_steps)

pub returns-clause-fits : goal.returns-clause-fits
returns-clause-fits c =
    of_built (λ m. IsSendable c.args.origin c.args.rrset → Fits m) _ c.update.result (returns-clause-built c)
    (delete_by_rdata_fits c.args.id c.args.rrset c.args.origin c.args.use_edns)

pub returns-clause-means : goal.returns-clause-means
returns-clause-means c =
    of_built (λ m. DeletesData c.args.rrset c.args.origin m) _ c.update.result (returns-clause-built c)
    (deletes_data c.args.id c.args.rrset c.args.origin c.args.use_edns)
