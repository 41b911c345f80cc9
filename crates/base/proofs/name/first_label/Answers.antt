use Rattle.std.proofs.Common.{rules, ◌≡◌, ℕ, ◌+◌, ◌<◌, ◌≤◌, List, ◌∷◌, ◌++◌, length, ap, sym, ◌∙◌, arith, length-drop}
use Rattle.std.proofs.lemmas.Bool.Decides.{nat_tests}
use Rattle.std.proofs.lemmas.List.{nil_from_length, take_rest}
use Rattle.std.specs.List.{slice_range}
use Rattle.base.specs.names.Labels.{labels_of}
use Rattle.base.proofs.names.LabelLemmas.{is_first, labels_of-nil}
use Rattle.base.proofs.name.first_label.Goals as goal

pub returns-then-is_empty : goal.returns-then-is_empty
returns-then-is_empty c =
    let none : length c.args.wire.now ≡ 0 = grind (arith, nat_tests) in
    let nil = nil_from_length c.args.wire.now none in
    record { labels = ap labels_of nil ∙ labels_of-nil; bytes = nil; others = tt; shorter = tt }

pub slice_bounds-result-end : goal.slice_bounds-result-end
slice_bounds-result-end c =
    let some : 0 < length c.args.wire.now = grind (arith, nat_tests) in
    let first = is_first c.args.wire.now c.requires some (1 + c.from-end.result) (omega arith) in
    let fits : 1 + c.from-end.result ≤ length c.args.wire.now = first.fits in
    search rules

pub returns : goal.returns
returns c =
    let wire = c.args.wire.now in
    let end = 1 + c.from-end.result in
    let some : 0 < length wire = grind (arith, nat_tests) in
    let first = is_first wire c.requires some end (omega arith) in
    let rest = take_rest wire end in
    record {
      labels = first.labels ∙ ap (λ (w : List ℕ). slice_range wire 1 end ∷ labels_of w) (sym rest);
      bytes = first.parts ∙ ap (λ (w : List ℕ). (length (slice_range wire 1 end) ∷ slice_range wire 1 end) ++ w)
          (sym rest);
      others = rw rest first.whole;
      shorter = rw rest (omega (arith, length-drop end wire));
    }
