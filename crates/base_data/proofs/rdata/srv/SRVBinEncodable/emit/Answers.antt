use Rattle.std.proofs.Common.{◌∙◌, ap}
use Rattle.base.proofs.writing.WrittenLemmas.{Exactly-then}
use Rattle.base.specs.writing.Wire.{state_of}
use Rattle.base.specs.writing.Written.{after, just, plain_name}
use Rattle.base_data.specs.SRV.{srv_numbers}
use Rattle.base_data.proofs.rdata.srv.SRVBinEncodable.emit.Goals as goal

pub returns-clause-exact : goal.returns-clause-exact
returns-clause-exact c =
    let x = c.args.self.now in
    Exactly-then c.emit_plain.result (just (srv_numbers x)) (plain_name x.target.labels) (state_of c.args.encoder.now) (state_of c.emit_slice.new.self) (state_of c.emit_plain.new.encoder)
    (c.in_ok-emit_slice.ensures.exact ∙ ap (λ f. after f (state_of c.args.encoder.now)) (ap just c.number_octets.ensures.bytes)) c.emit_plain.ensures.exact
