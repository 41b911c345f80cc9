use Rattle.std.proofs.Common.{Err, ap, subst, ◌∙◌}
use Rattle.std.specs.Prelude.{[], ◌∷◌}
use Rattle.std.proofs.lemmas.Result.{err_from_is_err_and}
use Rattle.base.specs.names.Labels.{wire_of}
use Rattle.base.specs.writing.Wire.{state_of}
use Rattle.base.specs.writing.Written.{Exactly, after, both, just}
use Rattle.base.proofs.writing.LawLemmas.{Keeps-then}
use Rattle.base.proofs.writing.WrittenLemmas.{Exactly-first, Exactly-then}
use Rattle.base.proofs.name.Name.emit_plain.Goals as goal

pub returns-clause-keeps : goal.returns-clause-keeps
returns-clause-keeps c = Keeps-then c.emit_slice.ensures.keeps c.emit.ensures.keeps

pub returns-clause-exact : goal.returns-clause-exact
returns-clause-exact c =
    let a = state_of c.args.encoder.now in
    Exactly-then c.emit.result (just (wire_of c.args.self.now.labels)) (just (0 ∷ [])) a
    (state_of c.emit_slice.new.self) (state_of c.emit.new.self)
    (c.in_ok-emit_slice.ensures.exact ∙ ap (λ xs. after (just xs) a) c.as_wire.ensures.value) c.emit.ensures.exact

pub returns-in_err-emit_slice-clause-exact : goal.returns-in_err-emit_slice-clause-exact
returns-in_err-emit_slice-clause-exact c =
    let p = err_from_is_err_and c.from_residual.result c.from_residual.ensures.1 in
    let e = c.in_err-emit_slice.field-0.0 in
    let z = state_of c.emit_slice.new.self in
    rw (p.1, p.2) (subst (λ xs. Exactly {X = Unit {0}} (both (just xs) (just (0 ∷ []))) (state_of c.args.encoder.now) z
    (Err e)) c.as_wire.ensures.value
    (Exactly-first (Unit {0}) (Unit {0}) e (just c.as_wire.result.now) (just (0 ∷ []))
    (state_of c.args.encoder.now) z z c.in_err-emit_slice.ensures.exact))
