use Rattle.std.proofs.Common.{ap}
use Rattle.base.proofs.writing.WrittenLemmas.{Exactly-same, Exactly-then}
use Rattle.base.specs.writing.Wire.{state_of}
use Rattle.base.specs.writing.Written.{both, just, name}
use Rattle.base_data.specs.SOA.{soa_numbers}
use Rattle.base_data.proofs.rdata.soa.SOABinEncodable.emit.Goals as goal

pub returns-clause-exact : goal.returns-clause-exact
returns-clause-exact c =
    let x = c.args.self.now in
    Exactly-then c.emit_slice.result (name x.mname.labels) (both (name x.rname.labels) (just (soa_numbers x)))
    (state_of c.args.encoder.now) (state_of c.emit.new.encoder) (state_of c.emit_slice.new.self)
    c.in_ok-emit.ensures.exact
    (Exactly-then c.emit_slice.result (name x.rname.labels) (just (soa_numbers x)) (state_of c.emit.new.encoder) (state_of c.emit-2.new.encoder) (state_of c.emit_slice.new.self)
    c.in_ok-emit-2.ensures.exact (Exactly-same c.emit_slice.result _ _ _ _ (ap just c.number_octets.ensures.bytes) c.emit_slice.ensures.exact))
