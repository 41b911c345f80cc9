use Rattle.std.proofs.Common.{arith}
use Rattle.std.proofs.lemmas.Grind.{common_steps}
use Rattle.base_data.specs.Kinds.{type_of_data}
use Rattle.op.specs.Fits.{Fits}
use Rattle.op_use.specs.SoundSet.{IsSendableKey}
use Rattle.op_use.specs.UpdateMeaning.{DeletesSet}
use Rattle.op_use.proofs.BuiltLemmas.{delete_rrset_fits, deletes_set, of_built}
use Rattle.op_use.proofs.update_message.builders.delete_rrset.Goals as goal

pub returns-clause-built : goal.returns-clause-built
returns-clause-built c = grind (arith, common_steps)

pub returns-clause-fits : goal.returns-clause-fits
returns-clause-fits c =
    of_built (λ m. IsSendableKey c.args.origin c.args.entry.name
    (type_of_data c.args.entry.rdata) c.args.entry.dns_class
    → Fits m) _ c.update.result (returns-clause-built c)
    (delete_rrset_fits c.args.id c.args.entry c.args.origin c.args.use_edns)

pub returns-clause-means : goal.returns-clause-means
returns-clause-means c =
    of_built (λ m. DeletesSet c.args.entry c.args.origin m) _ c.update.result (returns-clause-built c)
    (deletes_set c.args.id c.args.entry c.args.origin c.args.use_edns)
