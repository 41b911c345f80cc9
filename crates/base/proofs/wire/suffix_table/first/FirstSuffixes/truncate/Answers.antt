use Rattle.std.proofs.Common.{◌∙◌, ap, sym, take, List, arith}
use Rattle.std.specs.Prelude.{map}
use Rattle.std.proofs.lemmas.List.{take-map, take-take}
use Rattle.base.specs.writing.State.{Stored}
use Rattle.base.specs.writing.Suffixes.{stored_at}
use Rattle.base.proofs.wire.suffix_table.first.FirstSuffixes.truncate.Goals as goal

pub returns-then-count-self : goal.returns-then-count-self
returns-then-count-self c =
    let old = c.self.inside in
    let shown = stored_at (take old.used old.bytes) in
    ap (map shown) (sym (take-take c.args.count old.count old.all (omega (arith, c.if-count-self.true))))
    ∙ sym (take-map shown c.args.count (take old.count old.all))
    ∙ ap (λ (ts : List Stored). take c.args.count ts) c.self.view_is
