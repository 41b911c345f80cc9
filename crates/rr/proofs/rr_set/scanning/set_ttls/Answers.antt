use Rattle.std.proofs.Common.{ap, sym, ◌∙◌, arith, ◌<◌, length, set}
use Rattle.std.proofs.lemmas.List.Edits.{map_over_more}
use Rattle.base_data.specs.declared.rdata.RData.{RData}
use Rattle.rr.specs.declared.record.Record.{Record}
use Rattle.rr.proofs.rr_set.scanning.set_ttls.Goals as goal

pub loop-entry-preserved : goal.loop-entry-preserved
loop-entry-preserved c =
    let ys = c.loop-entry.entry-items in
    let i = c.loop-entry.entry-index in
    let below : c.loop-entry.entry-index < length c.deref_mut-entry-items.result.now = omega arith in
    ap (λ (x : Record RData). set ys i (record x { ttl = c.args.ttl })) (sym c.entry-item.is)
    ∙ map_over_more (λ (r : Record RData). record r { ttl = c.args.ttl }) _ _ i c.entry-item.result
    (search arith) c.loop-entry.invariant c.entry-item.is
