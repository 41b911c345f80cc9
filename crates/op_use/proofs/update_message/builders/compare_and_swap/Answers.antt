use Rattle.std.proofs.Common.{rules}
use Rattle.op.specs.Fits.{Fits}
use Rattle.op_use.specs.SoundSet.{IsSendable}
use Rattle.op_use.specs.UpdateMeaning.{SwapsSets}
use Rattle.op_use.proofs.BuiltLemmas.{compare_and_swap_fits, swaps_sets, of_built}
use Rattle.op_use.proofs.update_message.builders.compare_and_swap.Goals as goal

pub returns-clause-built : goal.returns-clause-built
returns-clause-built c = search rules

pub returns-clause-fits : goal.returns-clause-fits
returns-clause-fits c =
    of_built (λ m. IsSendable c.args.origin c.args.current → IsSendable c.args.origin c.args.new
    → Fits m) _ c.update.result (returns-clause-built c)
    (compare_and_swap_fits c.args.id c.args.current c.args.new c.args.origin c.args.use_edns)

pub returns-clause-means : goal.returns-clause-means
returns-clause-means c =
    of_built (λ m. SwapsSets c.args.current c.args.new c.args.origin m) _ c.update.result (returns-clause-built c)
    (swaps_sets c.args.id c.args.current c.args.new c.args.origin c.args.use_edns)
