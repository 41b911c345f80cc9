use Rattle.base.proofs.writing.LawLemmas.{none_is_not}
use Rattle.base_data.specs.SameData.{same_data}
use Rattle.base_data.specs.declared.rdata.RData.{RData}
use Rattle.rr.proofs.IndexLemmas.{equal_at, none_any, not_found, not_there}
use Rattle.rr.proofs.rr_set.indexed_records.place_of.Goals as goal
use Rattle.base.specs.Keys.{indexed_at}
use Rattle.rr.specs.SetChanges.{has_data_of}
use Rattle.rr.specs.declared.record.Record.{Record}
use Rattle.std.proofs.Common.{ap, arith, length, refl, rules, sym, ◌<◌, ◌∙◌, ◌≡◌, ◌≤◌}
use Rattle.std.proofs.lemmas.Bool.{false_from_ne_true}
use Rattle.std.proofs.lemmas.Option.{same_Some, slice_get_past, slice_get_read}

pub returns-in_default : goal.returns-in_default
returns-in_default c = none_any (has_data_of c.args.entry.now) _
    (not_found (indexed_at c.args.places.now) _ c.args.entry.now c.requires.indexed
    (c.in_default.ensures.value ∙ ap (indexed_at c.args.places.now) c.requires.key))

pub returns-then-place-count : goal.returns-then-place-count
returns-then-place-count c =
    let len : c.len-count.result ≡ length c.args.records.now.items = search rules in
    let past : length c.args.records.now.items ≤ c.in-Some.place.now = omega (arith, len) in
    none_any (has_data_of c.args.entry.now) _
    (not_there (indexed_at c.args.places.now) _ c.args.entry.now c.requires.indexed c.in-Some.place.now
    (c.in-Some.ensures.value ∙ ap (indexed_at c.args.places.now) c.requires.key)
    (λ x e. absurd (none_is_not x (sym (slice_get_past c.args.records.now.items c.in-Some.place.now past) ∙ e))))

pub returns-then-eq : goal.returns-then-eq
returns-then-eq c =
    let len : c.len-count.result ≡ length c.args.records.now.items = search rules in
    let inside : c.in-Some.place.now < length c.args.records.now.items = omega (arith, len) in
    let found = c.in-Some.ensures.value ∙ ap (indexed_at c.args.places.now) c.requires.key in
    record {
      known = c.index.result.now;
      here = slice_get_read c.args.records.now.items _ c.in-Some.place.now c.index.result.now refl inside
          c.index.ensures;
      same = sym c.eq.ensures ∙ c.if-eq.true;
      others = λ i x other e. false_from_ne_true _ (λ same. other (sym (same_Some c.in-Some.place.now i
          (found ∙ equal_at (indexed_at c.args.places.now) _ c.args.entry.now c.requires.indexed i x e same))));
    }

pub returns : goal.returns
returns c =
    let len : c.len-count.result ≡ length c.args.records.now.items = search rules in
    let inside : c.in-Some.place.now < length c.args.records.now.items = omega (arith, len) in
    let here = slice_get_read c.args.records.now.items _ c.in-Some.place.now c.index.result.now refl inside
    c.index.ensures in
    none_any (has_data_of c.args.entry.now) _
    (not_there (indexed_at c.args.places.now) _ c.args.entry.now c.requires.indexed c.in-Some.place.now
    (c.in-Some.ensures.value ∙ ap (indexed_at c.args.places.now) c.requires.key)
    (λ x e. ap (λ (y : Record RData). same_data y.rdata c.args.entry.now.rdata)
    (same_Some x c.index.result.now (sym e ∙ here)) ∙ sym c.eq.ensures ∙ c.if-eq.false))
