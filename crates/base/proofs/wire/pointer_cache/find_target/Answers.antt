use Rattle.std.proofs.Common.{rules, None, arith}
use Rattle.std.proofs.lemmas.Grind.{common_steps}
use Rattle.base.proofs.reading.CacheLemmas.{none_after, rest_is}
use Rattle.base.specs.reading.Pointers.{first_of}
use Rattle.base.proofs.wire.pointer_cache.find_target.Goals as goal

pub returns-then-place-ne0-clause-found : goal.returns-then-place-ne0-clause-found
returns-then-place-ne0-clause-found c = λ copied.
    rest_is copied c.args.places.now (first_of c.args.first.now) c.args.offset c.place_at-place.result _ (search rules)
    (search rules)

pub returns-then-target-offset-clause-found : goal.returns-then-target-offset-clause-found
returns-then-target-offset-clause-found c = λ copied.
    rest_is copied c.args.places.now (first_of c.args.first.now) c.args.offset c.place_at-place.result _ (search rules)
    (grind (arith, common_steps, c.loop-target.invariant copied))

pub returns-then-offset-first-clause-found : goal.returns-then-offset-first-clause-found
returns-then-offset-first-clause-found c = λ copied.
    let none = none_after copied c.args.first.now.last (first_of c.args.first.now) c.args.offset c.requires.last
    (omega (arith, c.if-offset-first.true)) in
    rest_is copied c.args.places.now (first_of c.args.first.now) c.args.offset c.place_at-place.result None
    (search rules)
    (grind (arith, common_steps, none))

pub returns-clause-found : goal.returns-clause-found
returns-clause-found c = λ copied.
    rest_is copied c.args.places.now (first_of c.args.first.now) c.args.offset c.place_at-place.result None
    (search rules)
    (grind (arith, common_steps, c.loop-target.invariant copied))
