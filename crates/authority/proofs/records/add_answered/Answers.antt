use Rattle.authority.proofs.SetLemmas.{added, left_out}
use Rattle.authority.proofs.records.add_answered.Goals as goal
use Rattle.authority.specs.Lookup.{record_of}
use Rattle.std.proofs.Common.{[], ap, sym, ◌++◌, ◌∙◌, ◌∷◌}

pub loop-entry-preserved-then-is_update : goal.loop-entry-preserved-then-is_update
loop-entry-preserved-then-is_update c =
    left_out (record_of c.args.class c.args.owner.now c.least_ttl-ttl.result) c.as_slice-entries.result.now
    c.loop-entry.entry-index c.entry-item.result c.loop-entry-test.true c.entry-item.is c.loop-entry.records.items _
    c.loop-entry.invariant (sym c.is_update.ensures ∙ c.if-is_update.true)

pub loop-entry-preserved : goal.loop-entry-preserved
loop-entry-preserved c =
    added (record_of c.args.class c.args.owner.now c.least_ttl-ttl.result) c.as_slice-entries.result.now
    c.loop-entry.entry-index c.entry-item.result c.loop-entry-test.true c.entry-item.is c.loop-entry.records.items _
    c.loop-entry.invariant (sym c.is_update.ensures ∙ c.if-is_update.false) c.push.new.self.items
    (c.in_ok-push.ensures.items ∙ ap (λ r. c.loop-entry.records.items ++ r ∷ []) c.in_ok-answer.ensures)
