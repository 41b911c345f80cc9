use Rattle.authority.proofs.records.with_capped_ttls.Goals as goal
use Rattle.authority.specs.Answer.{as_negative}
use Rattle.base_data.specs.declared.rdata.RData.{RData}
use Rattle.rr.specs.declared.record.Record.{Record}
use Rattle.std.proofs.Common.{ap, arith, get_or, set, sym, ℕ, ◌∙◌}
use Rattle.std.proofs.lemmas.List.Edits.{map_over_more}

pub loop-record-preserved : goal.loop-record-preserved
loop-record-preserved c =
    let ys = c.loop-record.record-items in
    let i = c.loop-record.record-index in
    let r = c.record-item.result in
    ap (λ (ttl : ℕ). set ys i (record (get_or ys i r) { ttl = ttl })) c.capped_ttl-record.ensures
    ∙ ap (λ (x : Record RData). set ys i (as_negative x)) (sym c.record-item.is)
    ∙ map_over_more as_negative _ _ i r (search arith) c.loop-record.invariant c.record-item.is
