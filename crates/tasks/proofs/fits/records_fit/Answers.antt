use Rattle.std.proofs.Common.{rules, subst}
use Rattle.std.proofs.lemmas.List.{take_all}
use Rattle.std.proofs.lemmas.List.Elements.{All-more}
use Rattle.std.specs.Prelude.{All}
use Rattle.rr.specs.Record.{FitsRecord}
use Rattle.tasks.proofs.fits.records_fit.Goals as goal

pub loop-entry-preserved : goal.loop-entry-preserved
loop-entry-preserved c =
    let fits : FitsRecord c.entry-item.result = c.fits_wire.ensures.0 (search rules) in
    All-more FitsRecord c.args.records.now c.loop-entry.entry-index c.entry-item.result c.loop-entry-test.true
    c.loop-entry.invariant (subst FitsRecord c.entry-item.is fits)

pub returns : goal.returns
returns c = (
  λ _. subst (All FitsRecord) (take_all c.loop-entry.entry-index c.args.records.now c.loop-entry-test.false)
      c.loop-entry.invariant,
  λ _. search rules,
)
