use Rattle.std.proofs.Common.{rules, arith, ap, ◌∙◌, ◌≢◌, length, List, ℕ}
use Rattle.std.proofs.lemmas.List.{take-append-le, take_all}
use Rattle.std.proofs.lemmas.Result.{on_ok_weaker}
use Rattle.base.specs.reading.Pointers.{labels_from}
use Rattle.base.proofs.reading.CacheLemmas.{copied_on_heap}
use Rattle.base.proofs.wire.pointer_cache.copied.CopiedLabels.append_before.Goals as goal

pub returns-clause-ok : goal.returns-clause-ok
returns-clause-ok c =
    let old = c.self.inside in
    let len = length c.copied_at-labels-2.result.now in
    let copy = c.copy_from_slice-2.new.self in
    let same = c.copy_from_slice-2.ensures.after in
    let some : length old.all.items ≢ 0 = search rules in
    on_ok_weaker c.push_labels.result
    (λ is. copied_on_heap old.used old.first _ old.all.items _ c.args.own.now _ c.args.place _ some c.self.view_is
    (take-append-le len copy _ (omega (arith, ap length same)) ∙ take_all len copy (omega (arith, ap length same))
    ∙ same ∙ c.copied_at-labels-2.ensures
    ∙ ap (λ (bs : List ℕ). labels_from bs c.args.place) c.deref.ensures.value) is)
    c.push_labels.ensures.ok
