use Rattle.std.proofs.Common.{rules}
use Rattle.op.specs.Fits.{Fits}
use Rattle.op_use.specs.SoundSet.{IsSendable}
use Rattle.op_use.specs.UpdateMeaning.{AppendsToSet}
use Rattle.op_use.proofs.BuiltLemmas.{append_fits, appends_to_set, of_built}
use Rattle.op_use.proofs.update_message.builders.append.Goals as goal

pub returns-clause-built : goal.returns-clause-built
returns-clause-built c = search rules

pub returns-clause-fits : goal.returns-clause-fits
returns-clause-fits c =
    of_built (λ m. IsSendable c.args.origin c.args.rrset → Fits m) _ c.update.result (returns-clause-built c)
    (append_fits c.args.id c.args.rrset c.args.origin c.args.must_exist c.args.use_edns)

pub returns-clause-means : goal.returns-clause-means
returns-clause-means c =
    of_built (λ m. AppendsToSet c.args.rrset c.args.origin c.args.must_exist m) _ c.update.result
    (returns-clause-built c) (appends_to_set c.args.id c.args.rrset c.args.origin c.args.must_exist c.args.use_edns)
