use Rattle.std.proofs.Common.{◌∙◌, Ok, Err, Result, ap, sym, subst, arith}
use Rattle.std.proofs.lemmas.Result.{err_from_is_err_and}
use Rattle.std.proofs.lemmas.Grind.{common_steps}
use Rattle.std.specs.Prelude.{OnErr}
use Rattle.base.specs.reading.NameFault.{fault_of}
use Rattle.base.specs.reading.Tracks.{IsBounded}
use Rattle.base.proofs.reading.GatherLemmas.{fails_is, gathers_none}
use Rattle.base.proofs.reading.PieceLemmas.{piece_refused}
use Rattle.base.proofs.reading.TargetLemmas.{ends_found, ends_none, first_bounded, keeping_first}
use Rattle.base.proofs.reading.TargetLemmas.{keeping_bounded}
use Rattle.base.proofs.reading.TargetLemmas.{keeping_next, kept_all, next_bounded, next_refused}
use Rattle.base.proofs.reading.TargetLemmas.{walked_bounded, walked_first, walked_next, walked_nowhere}
use Rattle.base.proofs.name.reading.keep_target.Goals as goal
use Rattle.base.proofs.name.reading.keep_target.Goals.{in-Some+in_ok-kept_labels+then-is_some, in_default}

on_err : {X E : Type 0} {P : Type 0} (r : Result X E) → P → OnErr r P
on_err (Ok x) p = tt
on_err (Err e) p = p

pub returns-in_err-piece-clause-read : goal.returns-in_err-piece-clause-read
returns-in_err-piece-clause-read c =
    let p = err_from_is_err_and c.from_residual.result c.from_residual.ensures.1 in
    let old = c.args.decoder.now in
    rw (p.1, p.2) (fails_is (fault_of c.in_err-piece.field-0.0) _ (piece_refused
    (gathers_none old.bytes c.args.target c.args.used c.requires.new.inside c.requires.few) c.follow.ensures.lent
    c.in_err-piece.ensures.piece))

pub returns-in_err-piece-clause-bounded : goal.returns-in_err-piece-clause-bounded
returns-in_err-piece-clause-bounded c = on_err c.from_residual.result
    (first_bounded c.requires.new c.follow.ensures.counted)

pub pieces-init : goal.pieces-init
pieces-init c = rw c.new-waiting.ensures.items (walked_first c.requires.few c.requires.new c.follow.ensures.lent
    c.in_ok-piece.ensures.piece c.in_ok-piece.ensures.near c.follow.ensures.counted)

pub returns-in_err-kept_labels-clause-read : goal.returns-in_err-kept_labels-clause-read
returns-in_err-kept_labels-clause-read c =
    let p = err_from_is_err_and c.from_residual-in_err-kept_labels.result
    c.from_residual-in_err-kept_labels.ensures.1 in
    let k = c.in_err-kept_labels.ensures in
    rw (p.1, p.2) (fails_is (fault_of c.in_err-kept_labels.field-0.0) _ (walked_nowhere c.pieces.invariant c.in-Some.is
    (λ below. k.refused (omega (arith, below, c.from.ensures))) ∙ ap (λ fault. Err (fault_of fault)) (sym k.err)))

pub returns-in_err-kept_labels-clause-bounded : goal.returns-in_err-kept_labels-clause-bounded
returns-in_err-kept_labels-clause-bounded c =
    on_err c.from_residual-in_err-kept_labels.result (walked_bounded c.pieces.invariant)

pub returns-in_err-push-clause-bounded : goal.returns-in_err-push-clause-bounded
returns-in_err-push-clause-bounded c = on_err c.from_residual-in_err-push.result (walked_bounded c.pieces.invariant)

pub returns-in_err-piece-2-clause-read : goal.returns-in_err-piece-2-clause-read
returns-in_err-piece-2-clause-read c =
    let p = err_from_is_err_and c.from_residual-in_err-piece-2.result c.from_residual-in_err-piece-2.ensures.1 in
    let k = c.in_ok-kept_labels.ensures in
    let e = fault_of c.in_err-piece-2.field-0.0 in
    rw (p.1, p.2) (fails_is e _ (next_refused c.pieces.invariant c.in-Some.is (omega (arith, k.below, c.from.ensures))
    (sym k.is ∙ sym c.is_some.ensures ∙ c.if-is_some.false) c.follow-in-Some.ensures.counted
    c.follow-in-Some.ensures.lent c.in_err-piece-2.ensures.piece))

pub returns-in_err-piece-2-clause-bounded : goal.returns-in_err-piece-2-clause-bounded
returns-in_err-piece-2-clause-bounded c =
    let k = c.in_ok-kept_labels.ensures in
    on_err c.from_residual-in_err-piece-2.result (next_bounded c.pieces.invariant c.in-Some.is
    (omega (arith, k.below, c.from.ensures)) (sym k.is ∙ sym c.is_some.ensures ∙ c.if-is_some.false)
    c.follow-in-Some.ensures.counted)

pub pieces-preserved : goal.pieces-preserved
pieces-preserved c =
    let k = c.in_ok-kept_labels.ensures in
    walked_next c.pieces.invariant c.in-Some.is (omega (arith, k.below, c.from.ensures))
    (sym k.is ∙ sym c.is_some.ensures ∙ c.if-is_some.false)
    c.follow-in-Some.ensures.counted c.follow-in-Some.ensures.lent c.in_ok-piece-2.ensures.piece
    c.in_ok-piece-2.ensures.near c.in_ok-push.ensures.items

pub kept-init : goal.kept-init
kept-init c = elim c.match-piece.branch [
  | in-Some+in_ok-kept_labels+then-is_some w ↦
      let k = w.in_ok-kept_labels.ensures in
      keeping_first c.pieces.invariant (ends_found c.pieces.invariant w.in_ok-kept_labels.field-0 w.in-Some.is
      (omega (arith, k.below, w.from.ensures)) k.is
      (sym w.is_some.ensures ∙ w.if-is_some.true) k.spelled k.short k.closed)
  | in_default w ↦ keeping_first c.pieces.invariant (ends_none c.pieces.invariant w.in_default.is)
]

pub keep-requires : goal.keep-requires
keep-requires c = c.kept.invariant.can

pub returns-in_err-keep-clause-bounded : goal.returns-in_err-keep-clause-bounded
returns-in_err-keep-clause-bounded c = on_err c.from_residual-in_err-keep.result
    (subst (IsBounded c.args.decoder.now) (sym c.in_err-keep.ensures.err) (keeping_bounded c.kept.invariant))

pub kept-preserved : goal.kept-preserved
kept-preserved c = keeping_next c.kept.invariant c.in_ok-keep.ensures.ok c.pop.new.self.items c.in-Some-pop.above
    c.in-Some-pop.longer c.in-Some-pop.ensures.items

pub keep-requires-2 : goal.keep-requires-2
keep-requires-2 c = c.kept.invariant.can

pub returns-in_err-keep-2-clause-bounded : goal.returns-in_err-keep-2-clause-bounded
returns-in_err-keep-2-clause-bounded c = on_err c.from_residual-in_err-keep-2.result
    (subst (IsBounded c.args.decoder.now) (sym c.in_err-keep-2.ensures.err) (keeping_bounded c.kept.invariant))

pub returns-clause-read : goal.returns-clause-read
returns-clause-read c = (kept_all c.kept.invariant c.in_ok-keep-2.ensures.ok (grind (arith, common_steps))).0

pub returns-clause-kept : goal.returns-clause-kept
returns-clause-kept c = (kept_all c.kept.invariant c.in_ok-keep-2.ensures.ok (grind (arith, common_steps))).1
