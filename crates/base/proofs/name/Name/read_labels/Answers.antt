use Rattle.std.proofs.Common.{◌∙◌, ◌+◌, ◌<◌, ◌≤◌, ◌≡◌, ℕ, List, Ok, Err, refl, ap, arith, length, length-drop, sym}
use Rattle.std.proofs.Common.{subst}
use Rattle.std.specs.Prelude.{is_some}
use Rattle.std.proofs.lemmas.List.{append-nil}
use Rattle.std.proofs.lemmas.Result.{err_from_is_err_and}
use Rattle.base.specs.reading.Pieces.{ending_of}
use Rattle.base.specs.reading.NameFault.{fault_of}
use Rattle.base.specs.reading.Names.{labels_at, name_at}
use Rattle.base.specs.reading.Pointers.{AreTooLong, Fit, IsAdded}
use Rattle.base.specs.reading.Reader.{Reader}
use Rattle.base.specs.reading.Reading.{Fails}
use Rattle.base.proofs.reading.GatherLemmas.{fails_is, fails_on, gathers_none, pointer_fits, root_fits}
use Rattle.base.proofs.reading.NameLemmas.{adds_root, before, kept_since, looks_bounded, looks_bytes, looks_first}
use Rattle.base.proofs.reading.NameLemmas.{looks_found, looks_less, name_read}
use Rattle.base.proofs.reading.PieceLemmas.{gathers_own, piece_fits, piece_refused, reads_next, reads_nowhere}
use Rattle.base.proofs.reading.PieceLemmas.{reads_refused, reads_root}
use Rattle.base.proofs.reading.PieceLemmas.{wire_next}
use Rattle.base.proofs.reading.ReadingLemmas.{name_from, name_refused}
use Rattle.base.proofs.name.Name.read_labels.Goals as goal

pub returns-in_err-piece-clause-read : goal.returns-in_err-piece-clause-read
returns-in_err-piece-clause-read c =
    let old = c.args.decoder.now in
    let p = err_from_is_err_and c.from_residual.result c.from_residual.ensures.1 in
    let e = fault_of c.in_err-piece.field-0.0 in
    let begun = gathers_none old.bytes old.index 0
    (omega (arith, c.index-start.ensures.inside, c.index-start.ensures.value)) (omega arith) in
    rw (p.1, p.2) (fails_is e _ (name_refused old.bytes old.index e
    (piece_refused begun c.rest-own.ensures c.in_err-piece.ensures.piece)))

-- ---- a name without a pointer

pub set-requires : goal.set-requires
set-requires c = piece_fits c.in_ok-piece.ensures.piece

pub move_to-requires-clause-inside : goal.move_to-requires-clause-inside
move_to-requires-clause-inside c =
    let part = c.in_ok-piece.ensures.piece.end ∙ ap (λ q. Ok (ending_of q)) c.in_default.is in
    omega (
      arith,
      root_fits _ c.in_ok-piece.piece.len part,
      ap length c.rest-own.ensures,
      length-drop c.args.decoder.now.index c.args.decoder.now.bytes,
      c.index-start.ensures.inside,
      c.index-start.ensures.value,
    )

pub invariant_of-self-in_default : goal.invariant_of-self-in_default
invariant_of-self-in_default c =
    let old = c.args.decoder.now in
    let inside : old.index ≤ length old.bytes =
    omega (arith, c.index-start.ensures.inside, c.index-start.ensures.value) in
    rw (c.set_fqdn.ensures, c.in_ok-set.ensures.ok, append-nil _, c.rest-own.ensures)
    (gathers_own old.bytes old.index inside c.rest-own.ensures c.in_ok-piece.ensures.piece).wire

pub returns-in_default : goal.returns-in_default
returns-in_default c =
    let old = c.args.decoder.now in
    let at = c.index-start.ensures in
    let inside : old.index ≤ length old.bytes = omega (arith, at.inside, at.value) in
    let read = reads_root old.bytes old.index inside c.rest-own.ensures c.in_ok-piece.ensures.piece c.in_default.is in
    let after = name_read {mid = old} _ read
    (adds_root old inside c.rest-own.ensures c.in_ok-piece.ensures.piece c.in_default.is) refl (λ counted. counted)
    (c.move_to.ensures ∙ ap (λ (i : ℕ). record old { index = i + c.in_ok-piece.piece.len + 1 }) at.value) in
    record {
      read = rw (
        c.move_to.ensures,
        c.set_fqdn.ensures,
        c.in_ok-set.ensures.ok,
        append-nil _,
        at.value,
        c.rest-own.ensures,
      )
          (name_from _ _ _ _ read, refl);
      passes = λ h. after.passes _ _ h;
      tracks = after.tracks;
    }

-- ---- a name that ends in a pointer

pub look-init : goal.look-init
look-init c = record { looks = before refl; wire = c.self.invariant }

pub invariant_of-self-in_err-kept : goal.invariant_of-self-in_err-kept
invariant_of-self-in_err-kept c = c.look.invariant.wire

pub returns-in_err-kept-clause-read : goal.returns-in_err-kept-clause-read
returns-in_err-kept-clause-read c =
    let old = c.args.decoder.now in
    let at = c.index-start.ensures in
    let k = c.in_err-kept.ensures in
    let p = err_from_is_err_and c.from_residual-in_err-kept.result c.from_residual-in_err-kept.ensures.1 in
    let e = fault_of c.in_err-kept.field-0.0 in
    let all : c.in_ok-piece.piece.len ≡ 0 + c.in_ok-piece.piece.len = omega arith in
    let nowhere = reads_nowhere old.bytes old.index (omega (arith, at.inside, at.value)) c.rest-own.ensures
    c.in_ok-piece.ensures.piece c.in-Some.is (λ below. subst (AreTooLong old.bytes c.in-Some.target) all
    (subst (λ (bs : List ℕ). AreTooLong bs c.in-Some.target c.in_ok-piece.piece.len)
    (looks_bytes c.look.invariant.looks)
    (k.refused (omega (arith, below, at.value))))) in
    rw (p.1, p.2) (fails_is e _ (name_refused old.bytes old.index e
    (nowhere ∙ ap (λ fault. Err (fault_of fault)) (sym k.err))))

pub returns-in_err-kept-clause-tracks : goal.returns-in_err-kept-clause-tracks
returns-in_err-kept-clause-tracks c =
    let p = err_from_is_err_and c.from_residual-in_err-kept.result c.from_residual-in_err-kept.ensures.1 in
    rw p.1 (looks_bounded c.look.invariant.looks)

pub set-requires-in-Some-2 : goal.set-requires-in-Some-2
set-requires-in-Some-2 c = piece_fits c.in_ok-piece.ensures.piece

pub move_to-requires-in-Some-2-clause-inside : goal.move_to-requires-in-Some-2-clause-inside
move_to-requires-in-Some-2-clause-inside c =
    let part = c.in_ok-piece.ensures.piece.end ∙ ap (λ q. Ok (ending_of q)) c.in-Some.is in
    omega (
      arith,
      pointer_fits _ c.in_ok-piece.piece.len c.in-Some.target part,
      ap length c.rest-own.ensures,
      length-drop c.args.decoder.now.index c.args.decoder.now.bytes,
      c.index-start.ensures.inside,
      c.index-start.ensures.value,
      ap length (looks_bytes c.look.invariant.looks),
    )

pub invariant_of-self-in_err-set-2 : goal.invariant_of-self-in_err-set-2
invariant_of-self-in_err-set-2 c = rw c.in_err-set-2.ensures.err c.look.invariant.wire

pub invariant_of-self-in-Some-2 : goal.invariant_of-self-in-Some-2
invariant_of-self-in-Some-2 c =
    let old = c.args.decoder.now in
    let at = c.index-start.ensures in
    let k = c.in_ok-kept.ensures in
    let inside : old.index ≤ length old.bytes = omega (arith, at.inside, at.value) in
    let found = looks_found old inside c.rest-own.ensures c.in_ok-piece.ensures.piece c.in-Some.is
    c.look.invariant.looks (sym k.is ∙ ap is_some c.in-Some-2.is) (rw c.in-Some-2.is at k.spelled)
    (rw c.in-Some-2.is at k.short) k.closed in
    rw (c.set_fqdn-in-Some-2.ensures, c.in_ok-set-2.ensures.ok, c.rest-own.ensures)
    (wire_next old.bytes old.index inside c.rest-own.ensures c.in_ok-piece.ensures.piece c.in-Some.is found.kept
    (omega (arith, found.short)))

pub returns-in-Some-2 : goal.returns-in-Some-2
returns-in-Some-2 c =
    let old = c.args.decoder.now in
    let now = c.look.decoder in
    let at = c.index-start.ensures in
    let k = c.in_ok-kept.ensures in
    let inside : old.index ≤ length old.bytes = omega (arith, at.inside, at.value) in
    let found = looks_found old inside c.rest-own.ensures c.in_ok-piece.ensures.piece c.in-Some.is
    c.look.invariant.looks
    (sym k.is ∙ ap is_some c.in-Some-2.is) (rw c.in-Some-2.is at k.spelled) (rw c.in-Some-2.is at k.short) k.closed in
    let read = reads_next old.bytes old.index inside c.rest-own.ensures c.in_ok-piece.ensures.piece c.in-Some.is
    (omega (arith, k.below, at.value)) found.kept (omega (arith, found.short)) in
    let after = name_read {mid = now} _ read found.adds found.now_is found.counts
    (c.move_to-in-Some-2.ensures ∙ ap (λ (i : ℕ). record now { index = i + c.in_ok-piece.piece.len + 2 }) at.value) in
    record {
      read = rw (
        c.move_to-in-Some-2.ensures,
        c.set_fqdn-in-Some-2.ensures,
        c.in_ok-set-2.ensures.ok,
        at.value,
        c.rest-own.ensures,
      )
          (name_from _ _ _ _ read, looks_bytes c.look.invariant.looks);
      passes = λ h. after.passes _ _ h;
      tracks = after.tracks;
    }

pub keep_target-requires : goal.keep_target-requires
keep_target-requires c =
    let at = c.index-start.ensures in
    let k = c.in_ok-kept.ensures in
    record {
      few = omega (arith, c.in_ok-piece.ensures.piece.short);
      new = record {
        inside = omega (arith, k.below, at.inside, ap length (looks_bytes c.look.invariant.looks));
        near = rw c.in-Some.is at c.in_ok-piece.ensures.near;
        absent = sym k.is ∙ ap is_some c.in_default-2.is;
        all_near = k.near;
      };
    }

pub invariant_of-self-in_err-keep_target : goal.invariant_of-self-in_err-keep_target
invariant_of-self-in_err-keep_target c = c.look.invariant.wire

pub look-smaller : goal.look-smaller
look-smaller c =
    let kept = c.in_ok-keep_target.ensures in
    looks_less kept.read kept.kept (sym c.in_ok-kept.ensures.is ∙ ap is_some c.in_default-2.is)

pub look-preserved : goal.look-preserved
look-preserved c =
    let t = c.in-Some.target in
    let kept = c.in_ok-keep_target.ensures in
    let first = looks_first c.look.invariant.looks (sym c.in_ok-kept.ensures.is ∙ ap is_some c.in_default-2.is) in
    record {
      looks = kept_since (subst (λ (r : Reader). Fit r.bytes t c.in_ok-piece.piece.len) first kept.read)
          (subst (λ (r : Reader). IsAdded t r c.keep_target.new.decoder) first kept.kept);
      wire = c.look.invariant.wire;
    }

pub returns-in_err-keep_target-clause-read : goal.returns-in_err-keep_target-clause-read
returns-in_err-keep_target-clause-read c =
    let p = err_from_is_err_and c.from_residual-in_err-keep_target.result
    c.from_residual-in_err-keep_target.ensures.1 in
    let old = c.args.decoder.now in
    let at = c.index-start.ensures in
    let t = c.in-Some.target in
    let len = c.in_ok-piece.piece.len in
    let e = fault_of c.in_err-keep_target.field-0.0 in
    let all : len ≡ 0 + len = omega arith in
    let below : t < old.index = omega (arith, c.in_ok-kept.ensures.below, at.value) in
    let refused = reads_refused old.bytes old.index (omega (arith, at.inside, at.value)) c.rest-own.ensures
    c.in_ok-piece.ensures.piece c.in-Some.is below e in
    rw (p.1, p.2) (fails_on e (labels_at old.bytes t t len) (name_at old.bytes old.index)
    (λ is. name_refused old.bytes old.index e
    (refused (subst (λ (n : ℕ). labels_at old.bytes t t n ≡ Err e) all is)))
    (subst (λ (bs : List ℕ). Fails e (labels_at bs t t len)) (looks_bytes c.look.invariant.looks)
    c.in_err-keep_target.ensures.read))
