use Rattle.base.proofs.IndexedLemmas.{place_others}
use Rattle.rr.proofs.PlacedLemmas.{Index, index_taken}
use Rattle.rr.proofs.rr_set.placed_records.take_out.Goals as goal
use Rattle.base.specs.Keys.{indexed_at}
use Rattle.rr.specs.PlacedRecords.{IsIndexed}
use Rattle.std.proofs.Common.{subst, sym, ◌∙◌}

pub returns : goal.returns
returns c = λ ps p r h here key.
    let m = c.in-Some.places in
    let n = c.remove.new.self in
    index_taken (indexed_at m) ps r (subst (λ (i : Index). IsIndexed i ps) c.in-Some.is h) (indexed_at n)
    (λ cs other. place_others c.args.key.now m n _ c.remove.ensures.updates cs (λ e. other (e ∙ sym key))) p here
