use Rattle.std.proofs.Common.{rules, subst}
use Rattle.std.proofs.lemmas.List.{take_all}
use Rattle.std.proofs.lemmas.List.Elements.{All-more}
use Rattle.std.specs.Prelude.{All, IsTrue}
use Rattle.rr.specs.RecordSays.{KeptRecord}
use Rattle.op.specs.Fits.{FitsIn}
use Rattle.op.proofs.message.fits_wire.records_fit.Goals as goal

pub loop-entry-preserved : goal.loop-entry-preserved
loop-entry-preserved c =
    let i = c.loop-entry.entry-index in
    let yes : IsTrue c.record_fits.result = search rules in (
      All-more (FitsIn c.args.among_additionals c.args.op_code) c.args.records.now i c.entry-item.result
          c.loop-entry-test.true c.loop-entry.invariant.0
          (subst (FitsIn c.args.among_additionals c.args.op_code) c.entry-item.is (c.record_fits.ensures.fits.0 yes)),
      All-more KeptRecord c.args.records.now i c.entry-item.result c.loop-entry-test.true c.loop-entry.invariant.1
          (subst KeptRecord c.entry-item.is (c.record_fits.ensures.kept yes)),
    )

pub returns : goal.returns
returns c =
    let whole = take_all c.loop-entry.entry-index c.args.records.now c.loop-entry-test.false in
    record {
      fits = (
        λ _. subst (All (FitsIn c.args.among_additionals c.args.op_code)) whole c.loop-entry.invariant.0,
        λ _. search rules,
      );
      kept = λ _. subst (All KeptRecord) whole c.loop-entry.invariant.1;
    }
