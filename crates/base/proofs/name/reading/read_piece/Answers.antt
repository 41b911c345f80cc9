use Rattle.std.proofs.Common.{◌≡◌, ◌≤◌, ◌+◌, refl, sym, ◌∙◌, arith, length-take, take, get_or}
use Rattle.base.specs.reading.Spelling.{ByteAt, anywhere}
use Rattle.base.proofs.reading.PieceLemmas.{after_labels, at_front, none_after, past, walked_cut, walked_long}
use Rattle.base.proofs.reading.PieceLemmas.{walked_off}
use Rattle.base.proofs.reading.WalkLemmas.{byte, part_at-bits, part_at-cut_pointer, part_at-pointer, part_at-root}
use Rattle.base.proofs.name.reading.read_piece.Goals as goal
use Rattle.base.proofs.name.reading.read_piece.Goals.{then-loop-len-test+then-near-len-ne0+else-from-le-MAX_LABEL}
use Rattle.base.proofs.name.reading.read_piece.Goals.{then-loop-len-test+else-near-len-ne0, else-loop-len-test}
use Rattle.base.proofs.name.reading.read_piece.Goals.{then-len-bytes-via-then-len-bytes}
use Rattle.base.proofs.name.reading.read_piece.Goals.{then-len-bytes-via-else-len-bytes+then-before-len-lt-MAX_NAME}

pub loop-len-init : goal.loop-len-init
loop-len-init c = at_front

pub loop-len-preserved : goal.loop-len-preserved
loop-len-preserved c =
    let near = take c.min.result c.args.bytes.now in
    let n = c.from-in-loop-len.result in
    let same : c.from.result ≡ n = c.from.ensures ∙ sym c.from-in-loop-len.ensures in
    past c.loop-len.invariant (byte near c.loop-len.len n c.loop-len-test.true (sym c.from-in-loop-len.ensures))
    (grind (arith, c.if-near-len-ne0.true, c.from-in-loop-len.ensures))
    (omega (arith, same, c.if-from-le-MAX_LABEL.true))

pub returns-then-len-bytes-clause-piece : goal.returns-then-len-bytes-clause-piece
returns-then-len-bytes-clause-piece c =
    let bytes = c.args.bytes.now in
    let m = c.min.result in
    elim c.then-len-bytes.branch [
      | then-len-bytes-via-then-len-bytes w ↦ walked_cut bytes m refl c.args.before
          (omega (arith, c.min.ensures, c.requires)) c.loop-len.invariant w.if-len-bytes.true
      | then-len-bytes-via-else-len-bytes+then-before-len-lt-MAX_NAME w ↦
          walked_off bytes m refl c.args.before c.loop-len.invariant
          (omega (
            arith,
            c.min.ensures,
            c.if-len-near.true,
            length-take m bytes,
            w.if-len-bytes.false,
            w.if-before-len-lt-MAX_NAME.true,
          ))
          (omega (arith, w.if-before-len-lt-MAX_NAME.true))
    ]

pub returns-then-len-near-clause-piece : goal.returns-then-len-near-clause-piece
returns-then-len-near-clause-piece c =
    walked_long c.args.bytes.now c.min.result refl c.args.before
    (omega (arith, c.min.ensures, c.requires)) c.requires c.loop-len.invariant
    c.if-len-bytes.false c.if-before-len-lt-MAX_NAME.false

pub returns-then-first-eq0-clause-piece : goal.returns-then-first-eq0-clause-piece
returns-then-first-eq0-clause-piece c =
    let bytes = c.args.bytes.now in
    let w = after_labels bytes c.min.result refl c.args.before
    (omega (arith, c.min.ensures, c.requires)) c.loop-len.invariant c.if-len-near.false c.if-first-eq0.true in
    record { labels = w.labels; end = part_at-root bytes c.loop-len.len w.here; short = w.short }

pub returns-then-first-lt-POINTER_BITS-clause-piece :
    goal.returns-then-first-lt-POINTER_BITS-clause-piece
returns-then-first-lt-POINTER_BITS-clause-piece c =
    let bytes = c.args.bytes.now in
    let w = after_labels bytes c.min.result refl c.args.before
    (omega (arith, c.min.ensures, c.requires)) c.loop-len.invariant c.if-len-near.false refl in
    let high : 64 ≤ get_or (take c.min.result bytes) c.loop-len.len 0 = elim c.loop-len-test.branch [
      | then-loop-len-test+then-near-len-ne0+else-from-le-MAX_LABEL w ↦ omega
          (arith, w.from.ensures, w.if-from-le-MAX_LABEL.false)
      | then-loop-len-test+else-near-len-ne0 w ↦ absurd (c.if-first-eq0.false w.if-near-len-ne0.false)
      | else-loop-len-test w ↦ absurd (omega (arith, w.loop-len-test.false, c.if-len-near.false))
    ] in
    none_after w (part_at-bits bytes c.loop-len.len _ w.here high c.if-first-lt-POINTER_BITS.true)

pub returns-then-len-bytes-2-clause-piece : goal.returns-then-len-bytes-2-clause-piece
returns-then-len-bytes-2-clause-piece c =
    let bytes = c.args.bytes.now in
    let w = after_labels bytes c.min.result refl c.args.before
    (omega (arith, c.min.ensures, c.requires)) c.loop-len.invariant c.if-len-near.false refl in
    none_after w (part_at-cut_pointer bytes c.loop-len.len _ w.here c.if-first-lt-POINTER_BITS.false
    c.if-len-bytes-2.true)

pub returns-clause-piece : goal.returns-clause-piece
returns-clause-piece c =
    let bytes = c.args.bytes.now in
    let len = c.loop-len.len in
    let c2 = c.from-3.result in
    let w = after_labels bytes c.min.result refl c.args.before
    (omega (arith, c.min.ensures, c.requires)) c.loop-len.invariant c.if-len-near.false refl in
    let next : ByteAt anywhere bytes (len + 1) c2 =
    byte bytes (len + 1) c2 c.if-len-bytes-2.false (sym c.from-3.ensures) in
    record {
      labels = w.labels;
      end = rw c.from-2.ensures (part_at-pointer bytes len _ c2 w.here next c.if-first-lt-POINTER_BITS.false);
      short = w.short;
    }
