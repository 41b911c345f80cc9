use Rattle.std.proofs.Common.{◌≡◌, ◌∙◌, ◌++◌, ◌∷◌, [], ◌≤◌, ◌+◌, ◌-◌, List, length, length-append, take, refl, sym, ap}
use Rattle.std.proofs.Common.{subst, arith}
use Rattle.base.specs.writing.State.{Stored}
use Rattle.base.specs.writing.Suffixes.{index_key, offset_in, IsTable}
use Rattle.base.proofs.writing.TableLemmas.{IsTable-pop, IsTable-cut, cut_last}
use Rattle.base.proofs.wire.suffix_table.SuffixTable.truncate.Goals as goal

pub loop-self-preserved-in-Some : goal.loop-self-preserved-in-Some
loop-self-preserved-in-Some c =
    let was = c.loop-self.self-inside in
    let front = c.pop.new.self.items in
    let u = c.in-Some.suffix in
    let is : was.others.items ≡ front ++ u ∷ [] = c.in-Some.ensures.items in
    let key = c.key_into-len.ensures.key ∙ ap index_key c.as_wire.ensures.value in
    let after = c.loop-self.invariant.after in
    let fits : c.args.count ≤ length was.first + length front =
    omega (arith, ap length is, length-append front (u ∷ []), after) in
    record {
      table = IsTable-pop was.index c.remove.new.self u key c.remove.ensures.updates
          (subst (IsTable (offset_in was.index) was.cells.items was.first) is c.loop-self.invariant.table) refl;
      front = sym (cut_last c.args.count was.first front u fits)
          ∙ ap (λ (zs : List Stored). take c.args.count (was.first ++ zs)) (sym is) ∙ c.loop-self.invariant.front;
      after = after;
    }

pub invariant_of-self : goal.invariant_of-self
invariant_of-self c =
    let fits : length c.loop-self.self-inside.others.items ≤ c.args.count - length c.loop-self.self-inside.first =
    omega (arith, c.loop-self.invariant.after) in
    IsTable-cut c.args.count c.loop-self.invariant.table fits c.truncate.ensures
