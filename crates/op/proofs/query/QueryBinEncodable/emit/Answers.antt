use Rattle.std.proofs.Common.{ℕ, ◌≡◌, ◌<◌, ◌^◌, ◌∙◌, ◌++◌, Result, Ok, Err, ap, subst}
use Rattle.std.specs.Int.{w16, to_be_bytes}
use Rattle.std.specs.Prelude.{OnOk}
use Rattle.base.specs.declared.error.proto_error.ProtoError.{ProtoError}
use Rattle.base.proofs.writing.WrittenLemmas.{Exactly-same, Exactly-then}
use Rattle.base.specs.DNSClass.{class_field, class_number}
use Rattle.base.specs.RecordType.{type_number}
use Rattle.base.specs.writing.Wire.{state_of}
use Rattle.base.specs.writing.Written.{just, name}
use Rattle.op.proofs.query.QueryBinEncodable.emit.Goals as goal

on_ok_always : {X P : Type 0} (r : Result X ProtoError) → P → OnOk r P
on_ok_always (Ok x) p = p
on_ok_always (Err e) p = tt

pub returns-clause-fits : goal.returns-clause-fits
returns-clause-fits c =
    let q = c.args.self.now in
    let fields = subst (λ (n : ℕ). (n < 2 ^ 16)
    × (class_field q.mdns_unicast_response (class_number q.query_class) < 2 ^ 16)) c.from.ensures
    (subst (λ (n : ℕ). (c.from.result < 2 ^ 16) × (n < 2 ^ 16)) c.to_field-class.ensures c.emit_fields.ensures.fits) in
    on_ok_always c.emit_fields.result (c.in_ok-emit.ensures.fits, fields)

pub returns-clause-exact : goal.returns-clause-exact
returns-clause-exact c =
    let q = c.args.self.now in
    let class = class_field q.mdns_unicast_response (class_number q.query_class) in
    let fields = to_be_bytes w16 (type_number q.query_type) ++ to_be_bytes w16 class in
    let same : just (to_be_bytes w16 c.from.result ++ to_be_bytes w16 c.to_field-class.result) ≡ just fields =
    ap (λ (n : ℕ). just (to_be_bytes w16 n ++ to_be_bytes w16 c.to_field-class.result)) c.from.ensures
    ∙ ap (λ (n : ℕ). just (to_be_bytes w16 (type_number q.query_type) ++ to_be_bytes w16 n)) c.to_field-class.ensures in
    let m = state_of c.emit.new.encoder in
    let z = state_of c.emit_fields.new.encoder in
    Exactly-then c.emit_fields.result (name q.name.labels) (just fields)
    (state_of c.args.encoder.now) m z c.in_ok-emit.ensures.exact
    (Exactly-same c.emit_fields.result _ _ m z same c.emit_fields.ensures.exact)
