use Rattle.base_data.specs.declared.rdata.RData.{RData}
use Rattle.rr.proofs.rr_set.scanning.enter.Goals as goal
use Rattle.rr.specs.SetChanges.{has_entry, joined}
use Rattle.rr.specs.declared.record.Record.{Record}
use Rattle.std.proofs.Common.{List, ap, false, if◌then◌else◌, rules, sym, true, ◌∙◌, ◌≡◌}

pub returns-clause-ok : goal.returns-clause-ok
returns-clause-ok c =
    let old = c.args.records.now.items in
    let none : has_entry c.args.entry old ≡ false = search rules in
    ap (λ (rs : List (Record RData)). (true, rs)) (search rules)
    ∙ sym (ap (λ b. if b then (false, old) else (true, joined c.args.entry old)) none)
