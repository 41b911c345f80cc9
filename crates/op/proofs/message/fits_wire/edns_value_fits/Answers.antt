use Rattle.std.proofs.Common.{◌<◌, ap, arith, refl, rules, ◌∙◌}
use Rattle.base.specs.DNSClass.{class_number}
use Rattle.op.proofs.writing.EdnsLemmas.{edns_kept}
use Rattle.op.specs.EdnsRecord.{opt_ttl}
use Rattle.op.specs.Fits.{with_high_bits}
use Rattle.op.specs.declared.edns.Edns.{Edns}
use Rattle.op.proofs.message.fits_wire.edns_value_fits.Goals as goal

pub returns-then-edns-ge-MIN_PAYLOAD-clause-kept : goal.returns-then-edns-ge-MIN_PAYLOAD-clause-kept
returns-then-edns-ge-MIN_PAYLOAD-clause-kept c = λ _ code.
    let e : Edns = with_high_bits code c.args.edns.now in
    let version : e.version < 256 = search rules in
    edns_kept e c.from-2.result (opt_ttl e) (c.from-2.ensures ∙ ap class_number c.for_opt.ensures) refl
    (c.from-2.type_inv, omega (arith, c.from.type_inv, c.from.ensures, version))
    c.fits.ensures
