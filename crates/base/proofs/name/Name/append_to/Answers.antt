use Rattle.std.proofs.Common.{ℕ, ◌+◌, ◌≤◌, ◌∙◌, List, length, length-append, refl, ap, sym, arith, take}
use Rattle.std.specs.Prelude.{Option, []}
use Rattle.std.proofs.lemmas.Result.{err_from_is_err_and}
use Rattle.base.specs.writing.AppendError.{refusal, told}
use Rattle.base.specs.names.Labels.{labels_of}
use Rattle.base.specs.writing.Compression.{longest_found, size_before}
use Rattle.base.specs.writing.SaysName.{found_as}
use Rattle.base.specs.writing.Wire.{state_of}
use Rattle.base.specs.writing.Written.{after, just, name, piece_at}
use Rattle.base.proofs.writing.LawLemmas.{Keeps-then}
use Rattle.base.proofs.writing.LongestLemmas.{end_of, name_is, storing-absent, storing-step, storing-end}
use Rattle.base.proofs.writing.LongestLemmas.{stored-end}
use Rattle.base.proofs.writing.WrittenLemmas.{Exactly-from, Exactly-refused}
use Rattle.base.proofs.name.Name.append_to.Goals as goal

pub store-requires-clause-absent : goal.store-requires-clause-absent
store-requires-clause-absent c =
    let a = state_of c.args.encoder.now in
    let s = state_of c.loop-before.encoder in
    found_as s.suffixes _ (sym (storing-absent a c.as_wire-wire.result.now c.loop-before.before s
    c.loop-before.invariant (omega (arith, c.loop-before-test.true, c.find_longest-kept.ensures.kept))))

pub loop-before-preserved : goal.loop-before-preserved
loop-before-preserved c =
    let a = state_of c.args.encoder.now in
    let s = state_of c.loop-before.encoder in
    storing-step a c.as_wire-wire.result.now c.loop-before.before (1 + c.from.result) s (state_of c.store.new.self)
    c.loop-before.invariant (omega (arith, c.loop-before-test.true, c.find_longest-kept.ensures.inside))
    (omega (arith, c.loop-before-test.true, c.find_longest-kept.ensures.kept)) (omega arith)
    (rw (← c.len-at.ensures) c.in_ok-store.ensures.ok)

-- ---- exactly the name

pub returns-in_err-append-clause-exact : goal.returns-in_err-append-clause-exact
returns-in_err-append-clause-exact c =
    let a = state_of c.args.encoder.now in
    let z = state_of c.append.new.self in
    let wire = c.as_wire-wire.result.now in
    let e = refusal c.in_err-append.field-0.0 in
    let kept = take c.find_longest-kept.result.0 wire in
    let is = err_from_is_err_and c.from_residual.result c.from_residual.ensures.1 in
    let bytes = ap (λ (labels : List (List ℕ)). length (piece_at (name labels) a).bytes)
    (sym c.as_wire-wire.ensures.cut)
    ∙ ap length (name_is a wire c.as_wire-wire.ensures.whole 0 [])
    ∙ length-append (take (size_before a.suffixes (labels_of wire)) wire)
    (end_of (longest_found a.suffixes (labels_of wire)) 0 []).bytes in
    let short : length kept ≤ length (piece_at (name c.args.self.now.labels) a).bytes =
    omega (arith, bytes, ap (λ (k : ℕ). length (take k wire)) c.find_longest-kept.ensures.kept) in
    rw (is.1, is.2) (Exactly-refused (Unit {0}) (Unit {0}) e (name c.args.self.now.labels) (just kept) a a z z refl
    (omega (arith, short)) c.in_err-append.ensures.exact)

pub returns-then-kept-eq0-clause-exact : goal.returns-then-kept-eq0-clause-exact
returns-then-kept-eq0-clause-exact c =
    let a = state_of c.args.encoder.now in
    let wire = c.as_wire-wire.ensures in
    Exactly-from (told c.append_end.result) (name c.args.self.now.labels) (end_of c.find_longest-kept.result.1) a a
    (state_of c.append_end.new.self)
    (ap (λ (labels : List (List ℕ)). after (name labels) a) (sym wire.cut)
    ∙ stored-end a c.as_wire-wire.result.now wire.whole (omega (arith, c.find_longest-kept.ensures.kept))
    ∙ ap (λ (r : Option ℕ). after (end_of r) a) (sym c.find_longest-kept.ensures.found))
    c.append_end.ensures.exact

pub returns-clause-exact : goal.returns-clause-exact
returns-clause-exact c =
    let a = state_of c.args.encoder.now in
    let s = state_of c.loop-before.encoder in
    let wire = c.as_wire-wire.ensures in
    Exactly-from (told c.append_end-2.result) (name c.args.self.now.labels) (end_of c.find_longest-kept.result.1) a s
    (state_of c.append_end-2.new.self)
    (ap (λ (labels : List (List ℕ)). after (name labels) a) (sym wire.cut)
    ∙ storing-end a c.as_wire-wire.result.now c.loop-before.before s wire.whole c.loop-before.invariant
    (omega (arith, c.loop-before-test.false, c.find_longest-kept.ensures.kept))
    ∙ ap (λ (r : Option ℕ). after (end_of r) s) (sym c.find_longest-kept.ensures.found))
    c.append_end-2.ensures.exact

pub returns-clause-keeps : goal.returns-clause-keeps
returns-clause-keeps c = Keeps-then c.loop-before.invariant.keeps c.append_end-2.ensures.keeps
