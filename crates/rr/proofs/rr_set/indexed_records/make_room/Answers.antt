use Rattle.std.proofs.Common.{arith, rules, ℕ, ◌≡◌, ◌∙◌, List, ap, length, not, subst, sym}
use Rattle.std.proofs.lemmas.Option.{slice_get_within}
use Rattle.std.specs.BTreeMap.{BTreeMap}
use Rattle.std.specs.Prelude.{Vec}
use Rattle.std.specs.declared.alloc.Global.{Global}
use Rattle.base_data.specs.declared.rdata.RData.{RData}
use Rattle.base.specs.Keys.{indexed_at}
use Rattle.rr.specs.DataIndex.{IsIndexOf}
use Rattle.rr.specs.declared.record.Record.{Record}
use Rattle.rr.proofs.Around.{joined_after}
use Rattle.base.proofs.IndexedLemmas.{place_here, place_others}
use Rattle.rr.proofs.IndexLemmas.{index_set, index_wider, joined_at, none_of}
use Rattle.rr.proofs.IndexLemmas.{place_known, place_last, pushed}
use Rattle.rr.proofs.rr_set.indexed_records.make_room.Goals as goal

pub returns-in-Some-place_of-clause-joined : goal.returns-in-Some-place_of-clause-joined
returns-in-Some-place_of-clause-joined c =
    let rs = c.args.records.now.items in
    let r : Record RData = c.args.entry.now in
    let p = c.in-Some-place_of.place in
    let find = indexed_at c.in-Some.places.value in
    let indexed : IsIndexOf (indexed_at c.in-Some.places.value) c.args.records.now.items = search rules in
    subst (λ (ys : List (Record RData)). IsIndexOf find ys) (joined_at r rs p c.in-Some-place_of.ensures)
    (index_set find rs p r indexed c.in-Some-place_of.ensures)

pub returns-then-is_none-clause-index : goal.returns-then-is_none-clause-index
returns-then-is_none-clause-index c =
    let rs = c.args.records.now.items in
    let m = c.deref_mut.result.now in
    let n = c.insert.new.self in
    let ks = c.in_ok-key.key.items in
    let there : IsIndexOf (indexed_at c.in-Some.places.value) c.args.records.now.items = search rules in
    let indexed = subst (λ (t : BTreeMap (Vec ℕ Global) ℕ). IsIndexOf (indexed_at t) rs)
    (sym c.deref_mut.ensures.value) there in
    let free = none_of c.in_ok-insert.field-0 (c.is_none.ensures ∙ ap not c.if-is_none.true) in
    index_wider (indexed_at m) (indexed_at n) _ ks indexed (sym c.in_ok-insert.ensures.old ∙ free)
    (place_others ks m n _ c.in_ok-insert.ensures.updates)

pub returns-then-is_none-clause-joined : goal.returns-then-is_none-clause-joined
returns-then-is_none-clause-joined c =
    let rs = c.args.records.now.items in
    let r : Record RData = c.args.entry.now in
    let m = c.deref_mut.result.now in
    let n = c.insert.new.self in
    let ks = c.in_ok-key.key.items in
    let updates = c.in_ok-insert.ensures.updates in
    let there : IsIndexOf (indexed_at c.in-Some.places.value) c.args.records.now.items = search rules in
    let indexed = subst (λ (t : BTreeMap (Vec ℕ Global) ℕ). IsIndexOf (indexed_at t) rs)
    (sym c.deref_mut.ensures.value) there in
    let free = none_of c.in_ok-insert.field-0 (c.is_none.ensures ∙ ap not c.if-is_none.true) in
    let len : c.len-place.result ≡ length c.args.records.now.items = search rules in
    pushed m n rs _ r ks c.len-place.result indexed c.in_ok-key.ensures (sym c.in_ok-insert.ensures.old ∙ free)
    (place_here ks m n _ updates) (place_others ks m n _ updates) len
    (sym (joined_after r rs c.in_default-place_of.ensures))

pub returns-in-Some-place_of-clause-place : goal.returns-in-Some-place_of-clause-place
returns-in-Some-place_of-clause-place c =
    place_known c.args.entry.now c.args.records.now.items c.in-Some-place_of.place c.in-Some-place_of.ensures

pub returns-in-Some-place_of-clause-room : goal.returns-in-Some-place_of-clause-room
returns-in-Some-place_of-clause-room c = λ last. absurd (omega (
  arith,
  last,
  slice_get_within c.args.records.now.items c.in-Some-place_of.place c.in-Some-place_of.ensures.known
      c.in-Some-place_of.ensures.here,
))

pub returns-in-Some-place_of-clause-index : goal.returns-in-Some-place_of-clause-index
returns-in-Some-place_of-clause-index c = rw c.in-Some.is at c.in_ok-places.ensures.index

pub returns-then-is_none-clause-place : goal.returns-then-is_none-clause-place
returns-then-is_none-clause-place c =
    let len : c.len-place.result ≡ length c.args.records.now.items = search rules in
    place_last c.args.entry.now c.args.records.now.items c.len-place.result len c.in_default-place_of.ensures

pub returns-else-is_none-clause-place : goal.returns-else-is_none-clause-place
returns-else-is_none-clause-place c =
    let len : c.len-place.result ≡ length c.args.records.now.items = search rules in
    place_last c.args.entry.now c.args.records.now.items c.len-place.result len c.in_default-place_of.ensures

pub returns-else-is_none-clause-index : goal.returns-else-is_none-clause-index
returns-else-is_none-clause-index c = c.take.ensures.missing _

pub returns-else-is_none-clause-joined : goal.returns-else-is_none-clause-joined
returns-else-is_none-clause-joined c = c.take.ensures.missing _

pub returns-in_default-clause-missing : goal.returns-in_default-clause-missing
returns-in_default-clause-missing c = c.take.ensures.missing

pub returns-in_err-key-clause-index : goal.returns-in_err-key-clause-index
returns-in_err-key-clause-index c = c.take.ensures.missing _

pub returns-in_err-places-clause-index : goal.returns-in_err-places-clause-index
returns-in_err-places-clause-index c = c.take.ensures.missing _

pub returns-in_err-reserve-clause-index : goal.returns-in_err-reserve-clause-index
returns-in_err-reserve-clause-index c = c.take.ensures.missing _

pub returns-in_err-insert-clause-index : goal.returns-in_err-insert-clause-index
returns-in_err-insert-clause-index c = c.take.ensures.missing _

pub returns-in_default-clause-index : goal.returns-in_default-clause-index
returns-in_default-clause-index c = c.take.ensures.missing _

pub returns-then-is_none-clause-room : goal.returns-then-is_none-clause-room
returns-then-is_none-clause-room c = λ last. omega
    (arith, c.in_ok-reserve.ensures.ok, c.reserve.ensures.len, c.len-place.ensures)

pub returns-else-is_none-clause-room : goal.returns-else-is_none-clause-room
returns-else-is_none-clause-room c = λ last. omega
    (arith, c.in_ok-reserve.ensures.ok, c.reserve.ensures.len, c.len-place.ensures)
