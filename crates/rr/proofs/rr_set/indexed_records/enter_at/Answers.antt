use Rattle.std.proofs.lemmas.Option.{slice_get_read}
use Rattle.std.proofs.Common.{refl, rules, arith, ◌≡◌, ◌<◌, ◌∙◌, length, true, List, ap, subst, sym}
use Rattle.base_data.specs.declared.rdata.RData.{RData}
use Rattle.rr.specs.DataIndex.{IsFirstAt}
use Rattle.rr.specs.declared.record.Record.{Record}
use Rattle.rr.proofs.IndexLemmas.{entered_after, entered_at, entered_not, first_after, first_only, first_set}
use Rattle.rr.proofs.rr_set.indexed_records.enter_at.Goals as goal

pub returns-then-place-len-clause-value : goal.returns-then-place-len-clause-value
returns-then-place-len-clause-value c =
    let len : c.len.result ≡ length c.args.records.now.items = search rules in
    ap (λ (ys : List (Record RData)). (true, ys)) c.push_reserved.ensures.items
    ∙ entered_after c.args.entry c.args.records.now.items (c.requires.place.none (c.if-place-len.true ∙ len))

pub returns-then-place-len-clause-place : goal.returns-then-place-len-clause-place
returns-then-place-len-clause-place c =
    let r : Record RData = c.args.entry in
    let rs = c.args.records.now.items in
    let len : c.len.result ≡ length c.args.records.now.items = search rules in
    let last : c.args.place ≡ length c.args.records.now.items = c.if-place-len.true ∙ len in
    subst (IsFirstAt r.rdata c.push_reserved.new.self.items) (sym last)
    (subst (λ (ys : List (Record RData)). IsFirstAt r.rdata ys (length rs)) (sym c.push_reserved.ensures.items)
    (first_after r rs (c.requires.place.none last)))

pub returns-then-is_entry-clause-value : goal.returns-then-is_entry-clause-value
returns-then-is_entry-clause-value c =
    let len : c.len.result ≡ length c.args.records.now.items = search rules in
    let inside : c.args.place < length c.args.records.now.items = omega arith in
    entered_not c.args.entry c.args.records.now.items c.args.place c.index.result.now
    (c.requires.place.known inside)
    (slice_get_read c.args.records.now.items _ c.args.place c.index.result.now refl inside c.index.ensures)
    (sym c.is_entry.ensures ∙ c.if-is_entry.true)

pub returns-then-is_entry-clause-place : goal.returns-then-is_entry-clause-place
returns-then-is_entry-clause-place c =
    let len : c.len.result ≡ length c.args.records.now.items = search rules in
    let inside : c.args.place < length c.args.records.now.items = omega arith in
    first_only c.args.entry c.args.records.now.items c.args.place (c.requires.place.known inside)

pub returns-clause-value : goal.returns-clause-value
returns-clause-value c =
    let len : c.len.result ≡ length c.args.records.now.items = search rules in
    let inside : c.args.place < length c.args.records.now.items = omega arith in
    ap (λ (ys : List (Record RData)). (true, ys)) c.set_at.ensures
    ∙ entered_at c.args.entry c.args.records.now.items c.args.place c.index.result.now
    (c.requires.place.known inside)
    (slice_get_read c.args.records.now.items _ c.args.place c.index.result.now refl inside c.index.ensures)
    (sym c.is_entry.ensures ∙ c.if-is_entry.false)

pub returns-clause-place : goal.returns-clause-place
returns-clause-place c =
    let r : Record RData = c.args.entry in
    let len : c.len.result ≡ length c.args.records.now.items = search rules in
    let inside : c.args.place < length c.args.records.now.items = omega arith in
    subst (λ (ys : List (Record RData)). IsFirstAt r.rdata ys c.args.place) (sym c.set_at.ensures)
    (first_set r c.args.records.now.items c.args.place (c.requires.place.known inside))
