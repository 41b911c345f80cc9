use Rattle.std.proofs.Common.{◌∙◌, ◌-◌, ℕ, List, ap, get_or, take, sym, arith}
use Rattle.std.proofs.lemmas.Bool.{false≢true}
use Rattle.base.specs.names.Labels.{labels_of}
use Rattle.base.specs.writing.State.{Stored}
use Rattle.base.specs.writing.Suffixes.{slot_of, stored_at}
use Rattle.base.specs.writing.Written.{found_in}
use Rattle.base.proofs.writing.FirstLemmas.{found_entry, found_hinted, unhinted, unused}
use Rattle.base.proofs.writing.SuffixLemmas.{found_first, found_later}
use Rattle.base.proofs.wire.suffix_table.first.FirstSuffixes.find.Goals as goal

pub loop-entry-preserved : goal.loop-entry-preserved
loop-entry-preserved c =
    let inside = c.self.inside in
    let text = take inside.used inside.bytes in
    let es = take inside.count inside.all in
    c.loop-entry.invariant ∙ found_entry text es c.loop-entry.entry-index unused _ (omega arith)
    ∙ found_later (stored_at text (get_or es c.loop-entry.entry-index unused)) _ _
    (λ same. false≢true (sym c.if-is-2.false ∙ c.is-in-loop-entry.ensures.1 same))

pub returns-then-is-2-clause-value : goal.returns-then-is-2-clause-value
returns-then-is-2-clause-value c =
    let inside = c.self.inside in
    let text = take inside.used inside.bytes in
    let es = take inside.count inside.all in
    sym (c.loop-entry.invariant ∙ found_entry text es c.loop-entry.entry-index unused _ (omega arith)
    ∙ found_first (stored_at text (get_or es c.loop-entry.entry-index unused)) _ _
    (c.is-in-loop-entry.ensures.0 c.if-is-2.true))

pub returns-then-is-clause-value : goal.returns-then-is-clause-value
returns-then-is-clause-value c =
    let inside = c.self.inside in
    let text = take inside.used inside.bytes in
    sym (ap (λ (ts : List Stored). found_in ts (labels_of c.args.wire.now)) (sym c.self.view_is)
    ∙ found_hinted text inside.all inside.count (c.from-hint.result - 1) unused _ (rw c.self.view_is c.requires.order)
    (omega (arith, c.self.invariant.0.0.0)) (omega (arith, c.if-hint-eq0.false, c.if-hint-self.true))
    (c.is.ensures.0 c.if-is.true))

pub returns-then-hint-eq0-clause-value : goal.returns-then-hint-eq0-clause-value
returns-then-hint-eq0-clause-value c =
    let inside = c.self.inside in
    sym (ap (λ (ts : List Stored). found_in ts (labels_of c.args.wire.now)) (sym c.self.view_is)
    ∙ unhinted inside.hints (take inside.used inside.bytes) (take inside.count inside.all) c.args.wire.now
    c.self.invariant.0.1 c.self.invariant.1.1 c.requires.wire
    (ap (λ (i : ℕ). get_or inside.hints i 0) (sym (c.slot_of.ensures.value ∙ ap slot_of c.requires.front))
    ∙ sym c.from-hint.ensures ∙ c.if-hint-eq0.true))
