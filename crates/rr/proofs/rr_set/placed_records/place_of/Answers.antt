use Rattle.base.proofs.writing.LawLemmas.{none_is_not}
use Rattle.base_data.specs.SameData.{same_data}
use Rattle.base_data.specs.declared.rdata.RData.{RData}
use Rattle.rr.proofs.PlacedLemmas.{Places, not_in, nowhere}
use Rattle.rr.proofs.rr_set.placed_records.place_of.Goals as goal
use Rattle.base.specs.Keys.{indexed_at}
use Rattle.rr.specs.declared.record.Record.{Record}
use Rattle.std.proofs.Common.{None, Some, ap, refl, rules, sym, ◌∙◌, ◌≡◌}
use Rattle.std.proofs.lemmas.Bool.{not-false, not-true}
use Rattle.std.proofs.lemmas.Option.{same_Some, slice_get_past, slice_get_read}
use Rattle.std.specs.List.{slice_get}

pub returns-in_err-place : goal.returns-in_err-place
returns-in_err-place c =
    let find = indexed_at c.in-Some.index in
    rw c.from_residual.ensures (nowhere find c.args.places.now.items c.args.entry.now
    (rw c.in-Some.is at c.requires.placed.indexed) (c.in_err-place.ensures.value ∙ ap find c.requires.key))

pub returns-in_default-get : goal.returns-in_default-get
returns-in_default-get c =
    let find = indexed_at c.in-Some.index in
    let p = c.in_ok-place.field-0.now in
    let looked = rw c.in_default-get.is at c.get-2.ensures.lookup in
    let none : c.in_default-get.field-0.now ≡ None = search rules in
    let here = ap (λ (ps : Places). slice_get ps p) (sym c.deref.ensures.value)
    ∙ slice_get_read c.deref.result.now _ p c.in_default-get.field-0.now refl looked.3.0 looked.1 in
    not_in find c.args.places.now.items c.args.entry.now (rw c.in-Some.is at c.requires.placed.indexed) p
    (c.in_ok-place.ensures.value ∙ ap find c.requires.key)
    (λ x e. absurd (none_is_not x (sym none ∙ same_Some _ _ (sym here ∙ e))))

pub returns-in_default-get-2 : goal.returns-in_default-get-2
returns-in_default-get-2 c =
    let find = indexed_at c.in-Some.index in
    let p = c.in_ok-place.field-0.now in
    let past = (rw c.in_default-get.is at c.get-2.ensures.lookup).3 in
    let none = ap (λ (ps : Places). slice_get ps p) (sym c.deref.ensures.value)
    ∙ slice_get_past c.deref.result.now p past in
    not_in find c.args.places.now.items c.args.entry.now (rw c.in-Some.is at c.requires.placed.indexed) p
    (c.in_ok-place.ensures.value ∙ ap find c.requires.key)
    (λ x e. absurd (none_is_not (Some x) (sym none ∙ e)))

pub returns-then-ne : goal.returns-then-ne
returns-then-ne c =
    let find = indexed_at c.in-Some.index in
    let p = c.in_ok-place.field-0.now in
    let looked = c.in-Some-Some.ensures.lookup in
    let here = ap (λ (ps : Places). slice_get ps p) (sym c.deref.ensures.value)
    ∙ slice_get_read c.deref.result.now _ p c.in-Some-Some.field-0.now refl looked.3.0 looked.1 in
    not_in find c.args.places.now.items c.args.entry.now (rw c.in-Some.is at c.requires.placed.indexed) p
    (c.in_ok-place.ensures.value ∙ ap find c.requires.key)
    (λ x e. ap (λ (y : Record RData). same_data y.rdata c.args.entry.now.rdata)
    (same_Some x c.in-Some-Some.known (same_Some _ _ (sym e ∙ here) ∙ c.in-Some-Some.field-0-is))
    ∙ not-true _ (sym c.ne.ensures ∙ c.if-ne.true))

pub returns : goal.returns
returns c =
    let p = c.in_ok-place.field-0.now in
    let looked = c.in-Some-Some.ensures.lookup in
    record {
      known = c.in-Some-Some.known;
      here = ap (λ (ps : Places). slice_get ps p) (sym c.deref.ensures.value)
          ∙ slice_get_read c.deref.result.now _ p c.in-Some-Some.field-0.now refl looked.3.0 looked.1
          ∙ ap (λ x. Some x) c.in-Some-Some.field-0-is;
      same = not-false _ (sym c.ne.ensures ∙ c.if-ne.false);
    }
