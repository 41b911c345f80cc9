use Rattle.std.proofs.Common.{List, ℕ, ◌≡◌, ◌+◌, ◌-◌, ◌*◌, ◌∙◌, ap, length, sym, take}
use Rattle.base.specs.DNSClass.{class_number}
use Rattle.std.proofs.lemmas.Result.{on_ok_weaker}
use Rattle.op.specs.declared.edns.Edns.{Edns}
use Rattle.base.proofs.writing.WrittenLemmas.{Exactly-from}
use Rattle.base.specs.writing.Wire.{state_of}
use Rattle.base.specs.writing.Written.{after, both, in_turn, just, sized}
use Rattle.base_data.specs.OPT.{option_written}
use Rattle.op.specs.EdnsRecord.{edns_written}
use Rattle.op.proofs.writing.EdnsLemmas.{edns_after, edns_kept, front_bytes}
use Rattle.op.proofs.edns.writing.emit_raised.Goals as goal

pub returns-clause-fits : goal.returns-clause-fits
returns-clause-fits c =
    let e : Edns = record c.args.edns.now { rcode_high = c.args.rcode_high } in
    on_ok_weaker c.emit_sized.result (edns_kept e _ _ (c.from-payload.ensures ∙ ap class_number c.for_opt.ensures)
    (c.ttl_of-ttl.ensures ∙ ap (λ n. 16777216 * e.rcode_high + (65536 * e.version + n)) c.from.ensures)
    c.front.ensures.fits) c.emit_sized.ensures.fits

pub returns-clause-exact : goal.returns-clause-exact
returns-clause-exact c =
    let e : Edns = record c.args.edns.now { rcode_high = c.args.rcode_high } in
    let a = state_of c.args.encoder.now in
    let whole : List ℕ → _ = λ front. both (just front) (sized (in_turn option_written e.options)) in
    let front : take (length c.front.result - 2) c.front.result
    ≡ front_bytes c.from-payload.result c.ttl_of-ttl.result =
    ap (λ bytes. take (length bytes - 2) bytes) c.front.ensures.bytes in
    Exactly-from c.emit_sized.result (edns_written e) (whole (take (length c.front.result - 2) c.front.result)) a a
    (state_of c.emit_sized.new.encoder)
    (sym (ap (λ bytes. after (whole bytes) a) front
    ∙ edns_after e c.from-payload.result c.ttl_of-ttl.result
    (c.from-payload.ensures ∙ ap class_number c.for_opt.ensures)
    (c.ttl_of-ttl.ensures ∙ ap (λ n. 16777216 * e.rcode_high + (65536 * e.version + n)) c.from.ensures) a))
    c.emit_sized.ensures.exact
