use Rattle.std.proofs.Common.{rules, arith, ◌≡◌, ◌<◌, ◌≤◌, ◌∙◌, ◌∷◌, [], List, length, refl, set}
use Rattle.base_data.specs.declared.rdata.RData.{RData}
use Rattle.rr.specs.declared.record.Record.{Record}
use Rattle.rr.proofs.rr_set.scanning.put_alone.Goals as goal

set_alone : (rs : List (Record RData)) (r : Record RData) → length rs ≤ 1 → 0 < length rs → set rs 0 r ≡ r ∷ []
set_alone [] r one some = absurd (omega arith)
set_alone (x ∷ []) r one some = refl
set_alone (x ∷ y ∷ rs) r one some = absurd (omega arith)

pub returns-else-is_empty-clause-ok : goal.returns-else-is_empty-clause-ok
returns-else-is_empty-clause-ok c = c.set_at.ensures
    ∙ set_alone c.args.records.now.items c.args.entry c.requires (search rules)
