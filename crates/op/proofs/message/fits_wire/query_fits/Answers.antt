use Rattle.std.proofs.Common.{arith, rules}
use Rattle.rr.proofs.TypeReads.{reads_type}
use Rattle.op.proofs.message.fits_wire.query_fits.Goals as goal

pub returns : goal.returns
returns c = record {
  fits = (
    λ yes. let class = c.class_fits.ensures.0 yes in
        record {
          absolute = search rules;
          type_reads = reads_type _ _ _ _ _ c.ne.ensures c.if-ne.false c.from-2.ensures c.from.ensures
              (λ _. c.args.query.now.query_type);
          class_reads = class.0;
          narrow = class.1;
        },
    λ fits. c.class_fits.ensures.1 (fits.class_reads, fits.narrow),
  );
  kept = λ _. (
    (c.as_wire.ensures.labels, c.as_wire.ensures.plain),
    (omega (arith, c.from.type_inv, c.from.ensures), omega (arith, c.to_field.type_inv, c.to_field.ensures)),
  );
}
