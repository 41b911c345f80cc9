use Rattle.base.proofs.writing.LawLemmas.{Keeps-then}
use Rattle.base.proofs.writing.WrittenLemmas.{Exactly-same, Exactly-then}
use Rattle.base.specs.RecordType.{type_number}
use Rattle.base.specs.writing.Wire.{state_of}
use Rattle.base.specs.writing.Written.{Writing, both, just, name, sized}
use Rattle.base_data.specs.Kinds.{data_written}
use Rattle.base_data.specs.declared.rdata.RData.{RData}
use Rattle.rr.proofs.record.writing.RecordBinEncodable.emit.Goals as goal
use Rattle.rr.specs.Record.{fields_of, raw_record, with_data}
use Rattle.rr.specs.RecordSays.{FieldsFit}
use Rattle.std.proofs.Common.{List, [], ap, length, subst, sym, take, ℕ, ◌++◌, ◌-◌, ◌∙◌, ◌∷◌, ◌≡◌}
use Rattle.std.proofs.lemmas.Result.{on_ok_weaker}

-- the fields without the room for RDLENGTH, and then the data
after_owner : (xs : List ℕ) (n m type class ttl : ℕ) (d : RData) (w : Writing) → xs ≡ fields_of n m ttl ++ 0 ∷ 0 ∷ []
    → n ≡ type → m ≡ class → data_written d ≡ w
    → both (just (take (length xs - 2) xs)) (sized w) ≡ both (just (fields_of type class ttl)) (sized (data_written d))
after_owner xs n m type class ttl d w is type_is class_is data_is =
    ap (λ (ys : List ℕ). both (just (take (length ys - 2) ys)) (sized w)) is
    ∙ ap (λ (k : ℕ). both (just (fields_of k m ttl)) (sized w)) type_is
    ∙ ap (λ (k : ℕ). both (just (fields_of type k ttl)) (sized w)) class_is
    ∙ ap (λ (f : Writing). both (just (fields_of type class ttl)) (sized f)) (sym data_is)

pub returns-clause-keeps : goal.returns-clause-keeps
returns-clause-keeps g c = Keeps-then c.in_ok-emit.ensures.keeps c.emit_sized.ensures.keeps

pub returns-clause-fits : goal.returns-clause-fits
returns-clause-fits g c =
    let raw = raw_record (with_data g.R.RecordData.as_rdata c.args.self.now) in
    let type_is : c.from.result ≡ raw.type = c.from.ensures ∙ ap type_number c.record_type.ensures in
    let fields = subst (λ (n : ℕ). FieldsFit n raw.class raw.ttl) type_is
    (subst (λ (n : ℕ). FieldsFit c.from.result n raw.ttl) c.to_field-class.ensures c.fields-fields.ensures.fits) in
    on_ok_weaker c.emit_sized.result (λ kept. (c.in_ok-emit.ensures.fits, (fields, kept))) c.emit_sized.ensures.fits

pub returns-clause-exact : goal.returns-clause-exact
returns-clause-exact g c =
    let raw = raw_record (with_data g.R.RecordData.as_rdata c.args.self.now) in
    let type_is : c.from.result ≡ raw.type = c.from.ensures ∙ ap type_number c.record_type.ensures in
    let rest = both (just (fields_of raw.type raw.class raw.ttl)) (sized (data_written raw.rdata)) in
    let m = state_of c.emit.new.encoder in
    let z = state_of c.emit_sized.new.encoder in
    Exactly-then c.emit_sized.result (name raw.labels) rest (state_of c.args.encoder.now) m z c.in_ok-emit.ensures.exact
    (Exactly-same c.emit_sized.result _ rest m z
    (after_owner c.fields-fields.result c.from.result c.to_field-class.result raw.type raw.class raw.ttl raw.rdata
    (g.R.BinEncodable.written c.args.self.now.rdata)
    c.fields-fields.ensures.bytes type_is c.to_field-class.ensures
    (g.met.R.RecordData.keeps_written c.args.self.now.rdata)) c.emit_sized.ensures.exact)
