use Rattle.base.proofs.IndexedLemmas.{place_here, place_others}
use Rattle.rr.proofs.IndexLemmas.{none_of}
use Rattle.rr.proofs.PlacedLemmas.{Index, index_pushed}
use Rattle.rr.proofs.rr_set.placed_records.take_in.Goals as goal
use Rattle.base.specs.Keys.{indexed_at}
use Rattle.rr.specs.PlacedRecords.{IsIndexed}
use Rattle.std.proofs.Common.{ap, subst, sym, ◌∙◌}
use Rattle.std.specs.Prelude.{Some}

pub returns-clause-ok : goal.returns-clause-ok
returns-clause-ok c = λ ps r h len key.
    let m = c.in-Some.places in
    let n = c.insert.new.self in
    let updates = c.in_ok-insert.ensures.updates in
    let free = sym c.in_ok-insert.ensures.old
    ∙ none_of c.in_ok-insert.field-0 (sym c.is_some.ensures ∙ c.if-is_some.false) in
    index_pushed (indexed_at m) ps r (subst (λ (i : Index). IsIndexed i ps) (sym c.in-Some.ensures.value) h)
    (indexed_at n)
    (λ cs other. place_others c.args.key.items m n _ updates cs (λ e. other (e ∙ sym key)))
    (ap (indexed_at m) key ∙ free)
    (ap (indexed_at n) key ∙ place_here c.args.key.items m n _ updates ∙ ap Some (sym len))
