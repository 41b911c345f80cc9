use Rattle.authority.proofs.room.room_after_strings.Goals as goal
use Rattle.base.specs.names.Labels.{size_of, wire_of}
use Rattle.base.specs.reading.PointerLemmas.{length-wire_of}
use Rattle.std.proofs.Common.{MatchOption, ap, arith, length, subst, sym, ◌+◌, ◌<◌, ◌≡◌}
use Rattle.std.specs.Prelude.{None, Option, ℕ}

-- no room is none
none_left : (room total : ℕ) (o : Option ℕ) → o ≡ None → room < total
    → MatchOption o (room < total) (λ left. left + total ≡ room)
none_left room total o is less = subst (λ x. MatchOption x (room < total) (λ left. left + total ≡ room)) (sym is) less

pub returns-in_err-checked_sub : goal.returns-in_err-checked_sub
returns-in_err-checked_sub c =
    none_left c.args.room (length (wire_of c.args.txt.now)) c.from_residual.result c.from_residual.ensures (omega (
      arith,
      length-wire_of c.args.txt.now,
      ap size_of c.in-Some.ensures.steps,
      c.loop-string.invariant,
      c.in_err-checked_sub.ensures,
    ))

pub returns-in_err-left : goal.returns-in_err-left
returns-in_err-left c =
    none_left c.args.room (length (wire_of c.args.txt.now)) c.from_residual-in_err-left.result
    c.from_residual-in_err-left.ensures (omega (
      arith,
      length-wire_of c.args.txt.now,
      ap size_of c.in-Some.ensures.steps,
      c.loop-string.invariant,
      c.in_ok-checked_sub.ensures,
      c.in_err-left.ensures,
    ))

pub returns : goal.returns
returns c = omega (arith, length-wire_of c.args.txt.now, ap size_of c.in-None.ensures.steps.0, c.loop-string.invariant)
