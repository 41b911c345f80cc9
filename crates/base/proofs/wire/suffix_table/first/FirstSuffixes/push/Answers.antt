use Rattle.std.proofs.Common.{rules, ◌<◌, length, ◌∙◌, ◌++◌, ◌∷◌, [], ap, List, arith}
use Rattle.std.proofs.lemmas.List.{length-set}
use Rattle.base.specs.names.Labels.{labels_of}
use Rattle.base.specs.writing.State.{Stored}
use Rattle.base.proofs.writing.FirstLemmas.{hinted_push, pushed, pushed_entries}
use Rattle.base.proofs.wire.suffix_table.first.FirstSuffixes.push.Goals as goal

pub invariant_of-self : goal.invariant_of-self
invariant_of-self c =
    let old = c.self.inside in
    let fit = c.self.invariant.0.0 in
    let few : old.count < length old.all = omega (arith, c.if-self-ge-FIRST.false, fit.0.1) in (
      (
        (
          (omega (arith, c.if-self-ge-FIRST.false), length-set old.all old.count _ ∙ fit.0.1),
          (omega (arith, c.if-wire-start.false, fit.1.0), search rules),
        ),
        pushed_entries old.count old.used c.args.front c.args.offset old.all old.bytes c.args.wire.now
            c.copy_labels.new.place few (omega (arith, c.if-wire-start.false, fit.1.0, fit.1.1))
            c.copy_labels.ensures c.requires.wire c.requires.front c.requires.near c.self.invariant.0.1,
      ),
      (
        length-set old.hints c.slot_of.result _ ∙ c.self.invariant.1.0,
        hinted_push old.hints old.all old.count _ c.slot_of.result _ few c.slot_of.ensures.value
            (omega (arith, c.slot_of.ensures.below, c.self.invariant.1.0)) (omega arith) c.self.invariant.1.1,
      ),
    )

pub returns : goal.returns
returns c =
    let old = c.self.inside in
    let fit = c.self.invariant.0.0 in
    pushed old.count old.used c.args.front c.args.offset old.all old.bytes c.args.wire.now c.copy_labels.new.place
    (omega (arith, c.if-self-ge-FIRST.false, fit.0.1)) (omega (arith, c.if-wire-start.false, fit.1.0, fit.1.1))
    c.copy_labels.ensures c.requires.wire c.requires.front c.requires.near c.self.invariant.0.1
    ∙ ap (λ (ts : List Stored). ts ++ record { labels = labels_of c.args.wire.now; offset = c.args.offset } ∷ [])
    c.self.view_is
