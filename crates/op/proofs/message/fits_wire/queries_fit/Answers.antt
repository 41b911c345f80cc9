use Rattle.std.proofs.Common.{rules, subst}
use Rattle.std.proofs.lemmas.List.{take_all}
use Rattle.std.proofs.lemmas.List.Elements.{All-more}
use Rattle.std.specs.Prelude.{All, IsTrue}
use Rattle.op.specs.Query.{FitsQuery}
use Rattle.op.specs.QuerySays.{QueryKept}
use Rattle.op.proofs.message.fits_wire.queries_fit.Goals as goal

pub loop-query-preserved : goal.loop-query-preserved
loop-query-preserved c =
    let i = c.loop-query.query-index in
    let yes : IsTrue c.query_fits.result = search rules in (
      All-more FitsQuery c.args.queries.now i c.query-item.result c.loop-query-test.true c.loop-query.invariant.0
          (subst FitsQuery c.query-item.is (c.query_fits.ensures.fits.0 yes)),
      All-more QueryKept c.args.queries.now i c.query-item.result c.loop-query-test.true c.loop-query.invariant.1
          (subst QueryKept c.query-item.is (c.query_fits.ensures.kept yes)),
    )

pub returns : goal.returns
returns c =
    let whole = take_all c.loop-query.query-index c.args.queries.now c.loop-query-test.false in
    record {
      fits = (λ _. subst (All FitsQuery) whole c.loop-query.invariant.0, λ _. search rules);
      kept =
          λ _. subst (All QueryKept) whole c.loop-query.invariant.1;
    }
