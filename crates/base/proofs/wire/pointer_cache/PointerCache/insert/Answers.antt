use Rattle.std.proofs.Common.{◌<◌, Ok, Err, Result, ◌≡◌, ◌∙◌, ℕ, List, ◌++◌, ap, sym, arith, length}
use Rattle.std.proofs.lemmas.List.{length-set}
use Rattle.std.specs.FinMap as map
use Rattle.std.specs.Prelude.{OnErr}
use Rattle.base.specs.declared.wire.pointer_cache.Target.{Target}
use Rattle.base.specs.reading.Pointers.{Cache, first_of, kept_after, labels_from, rest_labels}
use Rattle.base.proofs.reading.CacheLemmas.{IsMade, first_up_to, made_first, made_longer, made_place, made_reach}
use Rattle.base.proofs.reading.CacheLemmas.{rest_found}
use Rattle.base.proofs.wire.pointer_cache.PointerCache.insert.Goals as goal
use Rattle.base.proofs.wire.pointer_cache.PointerCache.insert.Goals.{in-Some, in-None}

on_err : {X E : Type 0} {P : Type 0} (r : Result X E) → P → OnErr r P
on_err (Ok x) p = tt
on_err (Err e) p = p

pub invariant_of-self-then-self-lt-ROOM : goal.invariant_of-self-then-self-lt-ROOM
invariant_of-self-then-self-lt-ROOM c =
    let old = c.self.inside in
    let made : IsMade c.args.self.now old.copies.bytes old.copies.places.items (first_of old.first) =
    record { view = c.self.view_is; are = c.self.invariant.1 } in
    let one : Target = record { offset = c.args.offset; labels = c.in_ok-labels.labels } in
    let less : old.first.count < length old.first.all =
    omega (arith, c.if-self-lt-ROOM.true, c.self.invariant.0.0.1) in (
      (
        (
          omega (arith, c.if-self-lt-ROOM.true),
          length-set old.first.all old.first.count one ∙ c.self.invariant.0.0.1,
        ),
        rw c.max-self-inside.ensures
            (first_up_to old.first.all old.first.count old.first.last one c.self.invariant.0.1 less),
      ),
      (made_first old.first.all old.first.count (made_longer made c.joined.ensures.longer) c.args.offset
          c.in_ok-labels.labels c.requires.new less c.in_ok-labels.ensures.there).are,
    )

pub returns-then-self-lt-ROOM-clause-ok : goal.returns-then-self-lt-ROOM-clause-ok
returns-then-self-lt-ROOM-clause-ok c =
    let old = c.self.inside in
    let made : IsMade c.args.self.now old.copies.bytes old.copies.places.items (first_of old.first) =
    record { view = c.self.view_is; are = c.self.invariant.1 } in
    let rest : rest_labels old.copies.bytes c.match-after.rest ≡ kept_after c.args.self.now c.args.after =
    elim c.match-after.branch [
      | in-Some w ↦
          let found = rw w.deref.ensures.value at w.find_target-rest.ensures.found old.copies.bytes in
          ap (rest_labels old.copies.bytes) w.rest-is
          ∙ rest_found old.copies.bytes c.args.self.now w.in-Some.after w.find_target-rest.result
          (found ∙ ap (λ (m : Cache). map.get m w.in-Some.after) c.self.view_is)
          ∙ ap (kept_after c.args.self.now) (sym w.in-Some.is)
      | in-None w ↦ ap (rest_labels old.copies.bytes) w.rest-is ∙ ap (kept_after c.args.self.now) (sym w.in-None.is)
    ] in
    (made_first old.first.all old.first.count (made_longer made c.joined.ensures.longer) c.args.offset
    c.in_ok-labels.labels c.requires.new (omega (arith, c.if-self-lt-ROOM.true, c.self.invariant.0.0.1))
    c.in_ok-labels.ensures.there).view
    ∙ ap (λ (xs : List ℕ). map.insert c.args.self.now c.args.offset xs) (c.in_ok-labels.ensures.ok
    ∙ ap (λ (xs : List ℕ). c.args.own.now ++ xs) rest)

pub invariant_of-self-in_err-place : goal.invariant_of-self-in_err-place
invariant_of-self-in_err-place c =
    let old = c.self.inside in
    let made : IsMade c.args.self.now old.copies.bytes old.copies.places.items (first_of old.first) =
    record { view = c.self.view_is; are = c.self.invariant.1 } in
    (c.self.invariant.0, (made_longer (made_longer made c.joined.ensures.longer) c.place_of.ensures.longer).are)

pub returns-in_err-place-clause-err : goal.returns-in_err-place-clause-err
returns-in_err-place-clause-err c =
    let old = c.self.inside in
    let made : IsMade c.args.self.now old.copies.bytes old.copies.places.items (first_of old.first) =
    record { view = c.self.view_is; are = c.self.invariant.1 } in
    on_err c.from_residual-in_err-place.result
    (made_longer (made_longer made c.joined.ensures.longer) c.place_of.ensures.longer).view

pub invariant_of-self-in_err-reach : goal.invariant_of-self-in_err-reach
invariant_of-self-in_err-reach c =
    let old = c.self.inside in
    let made : IsMade c.args.self.now old.copies.bytes old.copies.places.items (first_of old.first) =
    record { view = c.self.view_is; are = c.self.invariant.1 } in
    let most = made_longer (made_longer made c.joined.ensures.longer) c.place_of.ensures.longer in
    (c.self.invariant.0, (made_reach most c.reach.ensures.same).are)

pub returns-in_err-reach-clause-err : goal.returns-in_err-reach-clause-err
returns-in_err-reach-clause-err c =
    let old = c.self.inside in
    let made : IsMade c.args.self.now old.copies.bytes old.copies.places.items (first_of old.first) =
    record { view = c.self.view_is; are = c.self.invariant.1 } in
    let most = made_longer (made_longer made c.joined.ensures.longer) c.place_of.ensures.longer in
    on_err c.from_residual-in_err-reach.result (made_reach most c.reach.ensures.same).view

pub invariant_of-self-2 : goal.invariant_of-self-2
invariant_of-self-2 c =
    let old = c.self.inside in
    let made : IsMade c.args.self.now old.copies.bytes old.copies.places.items (first_of old.first) =
    record { view = c.self.view_is; are = c.self.invariant.1 } in
    let most = made_longer (made_longer made c.joined.ensures.longer) c.place_of.ensures.longer in
    let there : c.from-3.result < length c.reach.new.places.items =
    omega (arith, c.in_ok-reach.ensures.there, c.from.ensures, c.from-3.ensures) in (
      c.self.invariant.0,
      (made_place (made_reach most c.reach.ensures.same) c.from-3.result c.in_ok-place.place there
          c.in_ok-place.ensures.place.0).are,
    )

pub returns-clause-ok : goal.returns-clause-ok
returns-clause-ok c =
    let old = c.self.inside in
    let made : IsMade c.args.self.now old.copies.bytes old.copies.places.items (first_of old.first) =
    record { view = c.self.view_is; are = c.self.invariant.1 } in
    let most = made_longer (made_longer made c.joined.ensures.longer) c.place_of.ensures.longer in
    let there : c.from-3.result < length c.reach.new.places.items =
    omega (arith, c.in_ok-reach.ensures.there, c.from.ensures, c.from-3.ensures) in
    let rest : rest_labels old.copies.bytes c.match-after.rest ≡ kept_after c.args.self.now c.args.after =
    elim c.match-after.branch [
      | in-Some w ↦
          let found = rw w.deref.ensures.value at w.find_target-rest.ensures.found old.copies.bytes in
          ap (rest_labels old.copies.bytes) w.rest-is
          ∙ rest_found old.copies.bytes c.args.self.now w.in-Some.after w.find_target-rest.result
          (found ∙ ap (λ (m : Cache). map.get m w.in-Some.after) c.self.view_is)
          ∙ ap (kept_after c.args.self.now) (sym w.in-Some.is)
      | in-None w ↦ ap (rest_labels old.copies.bytes) w.rest-is ∙ ap (kept_after c.args.self.now) (sym w.in-None.is)
    ] in
    (made_place (made_reach most c.reach.ensures.same) c.from-3.result c.in_ok-place.place there
    c.in_ok-place.ensures.place.0).view
    ∙ ap (λ (q : ℕ). map.insert c.args.self.now q (labels_from c.place_of.new.bytes c.in_ok-place.place))
    c.from-3.ensures
    ∙ ap (λ (xs : List ℕ). map.insert c.args.self.now c.args.offset xs) (c.in_ok-place.ensures.place.1
    ∙ c.in_ok-labels.ensures.ok ∙ ap (λ (xs : List ℕ). c.args.own.now ++ xs) rest)
