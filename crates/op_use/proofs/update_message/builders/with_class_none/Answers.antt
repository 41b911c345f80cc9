use Rattle.std.proofs.Common.{ap, sym, ◌∙◌, arith, set}
use Rattle.std.proofs.lemmas.List.Edits.{map_over_more}
use Rattle.base.specs.declared.dns_class.DNSClass.TheVariants as classes
use Rattle.base_data.specs.declared.rdata.RData.{RData}
use Rattle.rr.specs.declared.record.Record.{Record}
use Rattle.op_use.specs.UpdateMessage.{untimed_in}
use Rattle.op_use.proofs.update_message.builders.with_class_none.Goals as goal

pub loop-record-preserved : goal.loop-record-preserved
loop-record-preserved c =
    let ys = c.loop-record.record-items in
    let i = c.loop-record.record-index in
    ap (λ (x : Record RData). set ys i (record x { dns_class = classes.NONE; ttl = 0 })) (sym c.record-item.is)
    ∙ map_over_more (untimed_in classes.NONE) _ _ i c.record-item.result
    (search arith) c.loop-record.invariant c.record-item.is
