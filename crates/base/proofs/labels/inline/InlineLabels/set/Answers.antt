use Rattle.std.proofs.Common.{◌∙◌, ◌++◌, ◌+◌, ◌-◌, ℕ, List, ap, length, take, arith}
use Rattle.std.proofs.lemmas.Slice.{take-put_mid}
use Rattle.base.specs.names.StoredLabels.{StoredLabels}
use Rattle.base.proofs.labels.inline.InlineLabels.set.Goals as goal

pub returns : goal.returns
returns c =
    let slice = c.args.slice.now in
    let others = c.args.others.now in
    let used = c.args.used in
    let copied = take-put_mid used (used + length others - used) c.copy_front.new.room c.copy_few.new.place
    (used + length others) (omega (arith, ap length c.copy_few.ensures))
    (omega (arith, c.copy_front.array_long, c.requires.few))
    ∙ ap (λ (xs : List ℕ). xs ++ c.copy_few.new.place) c.copy_front.ensures
    ∙ ap (λ (xs : List ℕ). take used slice ++ xs) c.copy_few.ensures in
    ap (λ (items : List ℕ). record { items = items; is_fqdn = c.self.inside.is_fqdn }) copied
    ∙ ap (λ (o : StoredLabels). record o { items = take used slice ++ others }) c.self.view_is
