use Rattle.std.proofs.Common.{◌≡◌, ◌∙◌, ◌<◌, ◌+◌, ◌++◌, ◌∷◌, [], arith, length, sym, ap, take}
use Rattle.std.proofs.lemmas.List.{take_more, length-take}
use Rattle.base_data.specs.declared.rdata.RData.{RData}
use Rattle.rr.specs.declared.record.Record.{Record}
use Rattle.base.proofs.IndexedLemmas.{place_here, place_others}
use Rattle.rr.proofs.IndexLemmas.{none_of, pushed}
use Rattle.rr.proofs.rr_set.indexed_records.index_of.Goals as goal

pub loop-place-preserved : goal.loop-place-preserved
loop-place-preserved c =
    let rs = c.args.records.now.items in
    let i = c.loop-place.place in
    let m = c.loop-place.places in
    let n = c.insert.new.self in
    let ks = c.in_ok-key.key.items in
    let updates = c.in_ok-insert.ensures.updates in
    let inside : c.loop-place.place < length c.args.records.now.items = omega arith in
    let none = none_of c.in_ok-insert.field-0 (sym c.is_some.ensures ∙ c.if-is_some.false) in
    let len : c.loop-place.place ≡ length (take c.loop-place.place c.args.records.now.items) =
    omega (arith, length-take {A = Record RData}) in
    let is = take_more rs i c.index.result.now inside
    ∙ ap (λ (x : Record RData). take i rs ++ x ∷ []) (sym c.index.ensures) in
    pushed m n (take i rs) (take (i + 1) rs) c.index.result.now ks i c.loop-place.invariant c.in_ok-key.ensures
    (sym c.in_ok-insert.ensures.old ∙ none)
    (place_here ks m n _ updates) (place_others ks m n _ updates)
    len is
