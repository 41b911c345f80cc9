use Rattle.std.proofs.Common.{arith, subst, sym, ap, ◌∙◌}
use Rattle.std.specs.Io.KnownBytes.{Consumes}
use Rattle.commands.proofs.InputLemmas.{all_read, read_nothing, read_on, unread}
use Rattle.commands.proofs.input.read_all.Goals.{in-Ok+in_ok-extend_from_slice-in-Ok, in-Err}
use Rattle.commands.proofs.input.read_all.Goals as goal

pub loop-init : goal.loop-init
loop-init g c = unread (g.R.Read.remaining c.args.input.now) c.new-text.result.items c.new-text.ensures.items

pub returns-in-Ok-eq0-clause-all : goal.returns-in-Ok-eq0-clause-all
returns-in-Ok-eq0-clause-all g c =
    all_read (g.R.Read.remaining c.args.input.now) (g.R.Read.remaining c.loop.input)
    (g.R.Read.remaining c.read.new.self) c.loop.text.items c.read.new.buf c.read.result
    c.in-Ok-eq0.field-0 c.loop.invariant c.read.ensures.bytes c.in-Ok-eq0.is c.in-Ok-eq0.field-0-test
    (omega (arith, c.read.auto.buf))

pub loop-preserved : goal.loop-preserved
loop-preserved g c = elim c.match-read.branch [
  | in-Ok+in_ok-extend_from_slice-in-Ok w ↦
      read_on (g.R.Read.remaining c.args.input.now) (g.R.Read.remaining c.loop.input)
      (g.R.Read.remaining c.read.new.self) c.loop.text.items c.read.new.buf
      c.match-read.text.items c.read.result w.in-Ok.len c.loop.invariant c.read.ensures.bytes w.in-Ok.is
      (ap (λ t. t.items) w.text-is ∙ w.in_ok-extend_from_slice-in-Ok.ensures.items)
  | in-Err w ↦
      subst (Consumes (g.R.Read.remaining c.args.input.now) (g.R.Read.remaining c.read.new.self))
      (sym (ap (λ t. t.items) w.text-is))
      (read_nothing (g.R.Read.remaining c.args.input.now) (g.R.Read.remaining c.loop.input)
      (g.R.Read.remaining c.read.new.self) c.loop.text.items c.read.new.buf
      c.read.result w.in-Err.e c.loop.invariant c.read.ensures.bytes w.in-Err.is)
]
