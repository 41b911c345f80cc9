use Rattle.std.proofs.Common.{List, ◌≡◌, ◌<◌, ◌++◌, ◌∷◌, [], ap, arith, length, length-append}
use Rattle.txt.proofs.SetsInOrder.{one_more_put}
use Rattle.txt.proofs.zone.sets.map_of.Goals as goal

fewer : {E : Type 0} (left rest : List E) (e : E) → left ≡ rest ++ e ∷ [] → length rest < length left
fewer left rest e is = omega (arith, length-append rest (e ∷ []), ap length is)

pub sets-smaller-in_ok-insert : goal.sets-smaller-in_ok-insert
sets-smaller-in_ok-insert c = fewer _ c.pop.new.self _ c.in-Some.ensures.items

pub sets-smaller : goal.sets-smaller
sets-smaller c = fewer _ c.pop.new.self _ c.in-Some.ensures.items

pub sets-preserved-in_ok-insert : goal.sets-preserved-in_ok-insert
sets-preserved-in_ok-insert c = one_more_put _ _ _ _ c.pop.new.self c.insert.new.self.entries c.requires
    c.sets.invariant
    c.in-Some.ensures.items c.in_ok-insert.ensures.entries

pub sets-preserved : goal.sets-preserved
sets-preserved c = one_more_put _ _ _ _ c.pop.new.self c.insert.new.self.entries c.requires c.sets.invariant
    c.in-Some.ensures.items c.in_ok-insert.ensures.entries
