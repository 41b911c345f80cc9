use Rattle.std.proofs.Common.{[], ap, ◌∙◌, ◌∷◌}
use Rattle.std.proofs.lemmas.Result.{IfOk-weaker}
use Rattle.base_data.specs.declared.rdata.RData.{RData}
use Rattle.rr.specs.declared.record.Record.{Record}
use Rattle.op.specs.Fits.{Fits}
use Rattle.op_use.specs.SoundSet.{IsSendableOwner}
use Rattle.op_use.specs.UpdateMeaning.{DeletesName}
use Rattle.op_use.specs.UpdateMessage.{sections, update_message}
use Rattle.op_use.proofs.BuiltLemmas.{delete_all_fits, deletes_name, of_built}
use Rattle.op_use.proofs.update_message.builders.delete_all.Goals as goal

pub returns-clause-built : goal.returns-clause-built
returns-clause-built c =
    let gone = c.in_ok-updates.ensures.items ∙ ap (λ (r : Record RData). r ∷ []) c.empty_record-gone.ensures in
    IfOk-weaker c.update.result _ _ (λ m built. built
    ∙ (λ i. update_message c.args.id c.args.use_edns
    (sections c.args.origin c.args.dns_class (c.new.ensures.items i) (gone i)))) c.update.ensures.built

pub returns-clause-fits : goal.returns-clause-fits
returns-clause-fits c =
    of_built (λ m. IsSendableOwner c.args.origin c.args.name c.args.dns_class → Fits m) _ c.update.result
    (returns-clause-built c) (delete_all_fits c.args.id c.args.name c.args.origin c.args.dns_class c.args.use_edns)

pub returns-clause-means : goal.returns-clause-means
returns-clause-means c =
    of_built (λ m. DeletesName c.args.name c.args.origin c.args.dns_class m) _ c.update.result (returns-clause-built c)
    (deletes_name c.args.id c.args.name c.args.origin c.args.dns_class c.args.use_edns)
