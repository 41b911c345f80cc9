use Rattle.std.proofs.Common.{ap, arith, set, sym, ◌∙◌}
use Rattle.std.proofs.lemmas.List.Edits.{map_over_more}
use Rattle.base_data.specs.declared.rdata.RData.{RData}
use Rattle.rr.specs.Record.{decremented}
use Rattle.rr.specs.declared.record.Record.{Record}
use Rattle.examples.proofs.cache.run_down.Goals as goal

pub loop-entry-preserved : goal.loop-entry-preserved
loop-entry-preserved c =
    let ys = c.loop-entry.entry-items in
    let i = c.loop-entry.entry-index in
    ap (λ (x : Record RData). set ys i x) c.age.ensures
    ∙ ap (λ (x : Record RData). set ys i (decremented c.args.seconds x)) (sym c.entry-item.is)
    ∙ map_over_more (decremented c.args.seconds) _ _ i c.entry-item.result
    (search arith) c.loop-entry.invariant c.entry-item.is
