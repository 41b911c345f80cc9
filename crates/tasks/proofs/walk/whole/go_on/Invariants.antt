use Rattle.tasks.proofs.WalkLemmas.{Comes}
use Rattle.tasks.proofs.walk.whole.go_on.Given as goal

abbrev pub invariant-loop : goal.invariant-loop
invariant-loop l = Comes l.section l.count l.counter l.bytes l.decoder.bytes (l.fn.stops.items, l.fn.decoder.index)
    l.decoder.index l.stops.items
