use Rattle.std.proofs.Common.{rules, ◌≡◌, ◌++◌, ◌∷◌, [], length}
use Rattle.base.specs.names.Labels.{labels_of}
use Rattle.base.specs.writing.State.{Stored}
use Rattle.base.proofs.writing.TableLemmas.{IsTable-first}
use Rattle.base.proofs.wire.suffix_table.SuffixTable.store.Goals as goal

pub invariant_of-self : goal.invariant_of-self
invariant_of-self c =
    let t : Stored = record { labels = labels_of c.args.wire.now; offset = c.args.at } in
    let none : length c.self.inside.others.items ≡ 0 = search rules in
    let is : c.push.new.self ≡ c.self.inside.first ++ t ∷ [] = search rules in
    IsTable-first t none is c.self.invariant (rw c.self.view_is c.requires.absent) (rw c.self.view_is c.requires.later)
