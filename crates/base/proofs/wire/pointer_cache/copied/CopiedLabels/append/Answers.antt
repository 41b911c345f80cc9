use Rattle.std.proofs.Common.{rules, ◌≡◌, ◌∙◌, ap, ◌++◌, ◌∷◌, List, ℕ, length, arith}
use Rattle.base.proofs.reading.CacheLemmas.{copied_inside}
use Rattle.base.proofs.wire.pointer_cache.copied.CopiedLabels.append.Goals as goal

pub returns-then-place-len-le-ROOM-clause-ok : goal.returns-then-place-len-le-ROOM-clause-ok
returns-then-place-len-le-ROOM-clause-ok c =
    let old = c.self.inside in
    let own = c.args.own.now in
    let rest = c.args.rest.now in
    let none : length old.all.items ≡ 0 = search rules in
    copied_inside old.used _ _ old.first own rest old.all.items _ _
    none (omega (arith, c.if-place-len-le-ROOM.true)) c.copy_from_slice.ensures.after
    c.copy_from_slice-then-place-len-le-ROOM.ensures.after
    ∙ ap (λ (xs : List ℕ). xs ++ (length (own ++ rest) ∷ (own ++ rest))) c.self.view_is
