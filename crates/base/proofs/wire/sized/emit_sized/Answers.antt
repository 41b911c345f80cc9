use Rattle.std.proofs.Common.{◌≡◌, ℕ, ◌+◌, ◌-◌, ◌≤◌, ◌∙◌, List, ◌++◌, length, take, drop, ap, sym, refl, append_assoc}
use Rattle.std.proofs.Common.{arith, length-append, length-drop, length-take}
use Rattle.std.proofs.Math.Seq.{take-append_seam, drop-append_seam}
use Rattle.std.proofs.lemmas.List.{take-append-drop}
use Rattle.std.proofs.lemmas.Result.{err_from_is_err_and}
use Rattle.std.specs.Int.{w16, to_be_bytes}
use Rattle.base.specs.writing.AppendError.{refusal}
use Rattle.base.specs.writing.State.{State, appended, overwritten}
use Rattle.base.specs.writing.Wire.{state_of}
use Rattle.base.specs.writing.Written.{Piece, Writing, after, both, just, piece_at, sized}
use Rattle.base.proofs.writing.LawLemmas.{Keeps-after, Keeps-then}
use Rattle.base.proofs.writing.WrittenLemmas.{Exactly-refused, after-both}
use Rattle.base.proofs.wire.sized.emit_sized.Goals as goal

-- The bytes are some, and room of two, after which a value is written.
module _ (front : List ℕ) (w : Writing) (a m z : State) (two : 2 ≤ length front) (wrote : m ≡ appended front a) where
  abbrev xs : List ℕ
  xs = take (length front - 2) front

  abbrev room : List ℕ
  room = drop (length front - 2) front

  abbrev begun : State
  begun = appended xs a

  abbrev p : Piece
  p = w (length begun.bytes + 2) a.suffixes

  at : length (begun.bytes ++ room) ≡ length begun.bytes + 2
  at = omega (arith, length-append begun.bytes room, two, length-drop (length front - 2) front)

  parts : m ≡ appended room begun
  parts = wrote ∙ ap (λ bytes. record a { bytes = bytes })
      (ap (λ ys. a.bytes ++ ys) (sym (take-append-drop (length front - 2) front)) ∙ sym (append_assoc a.bytes xs room))

  value : piece_at w m ≡ p
  value = ap (piece_at w) parts ∙ ap (λ n. w n a.suffixes) at

  -- what the value takes is among what is written in all
  fits : length m.bytes + length (piece_at w m).bytes ≤ length a.bytes + length
      (piece_at (both (just xs) (sized w)) a).bytes
  fits =
      let inner = w (length a.bytes + length xs + 2) a.suffixes in
      omega (
        arith,
        ap (λ (s : State). length s.bytes) parts,
        at,
        ap (λ (q : Piece). length q.bytes) (value ∙ ap (λ n. w (n + 2) a.suffixes) (length-append a.bytes xs)),
        length-append a.bytes xs,
        length-append xs (to_be_bytes w16 (length inner.bytes) ++ inner.bytes),
        length-append (to_be_bytes w16 (length inner.bytes)) inner.bytes,
      )

  -- the room is filled with the number of the value's bytes
  filled : z ≡ after w m → overwritten (length m.bytes - 2)
      (to_be_bytes w16 (length z.bytes - (length m.bytes - 2 + 2))) z ≡ after (both (just xs) (sized w)) a
  filled is =
      let y : State = record a { bytes = (begun.bytes ++ room) ++ p.bytes; suffixes = p.suffixes } in
      let y_is : z ≡ y = is ∙ ap (λ (s : State).
      record s { bytes = s.bytes ++ (piece_at w m).bytes; suffixes = (piece_at w m).suffixes }) parts
      ∙ ap (λ (q : Piece). record a { bytes = (begun.bytes ++ room) ++ q.bytes; suffixes = q.suffixes }) value in
      let start : length m.bytes - 2 ≡ length begun.bytes =
      omega (arith, ap (λ (s : State). length s.bytes) parts, at) in
      let len : length y.bytes - (length begun.bytes + 2) ≡ length p.bytes =
      omega (arith, at, length-append (begun.bytes ++ room) p.bytes) in
      let before : take (length begun.bytes) y.bytes ≡ begun.bytes =
      ap (take (length begun.bytes)) (append_assoc begun.bytes room p.bytes)
      ∙ take-append_seam begun.bytes (room ++ p.bytes) in
      let behind : drop (length begun.bytes + 2) y.bytes ≡ p.bytes =
      ap (λ n. drop n y.bytes) (sym at) ∙ drop-append_seam (begun.bytes ++ room) p.bytes in
      ap (λ n. overwritten n (to_be_bytes w16 (length z.bytes - (n + 2))) z) start
      ∙ ap (λ (s : State). overwritten (length begun.bytes)
      (to_be_bytes w16 (length s.bytes - (length begun.bytes + 2))) s) y_is
      ∙ rw (len, before, behind) refl
      ∙ sym (after-both (just xs) (sized w) a)

pub returns-in_err-append-clause-exact : goal.returns-in_err-append-clause-exact
returns-in_err-append-clause-exact g c =
    let front = c.args.front.now in
    let a = state_of c.args.encoder.now in
    let z = state_of c.append.new.self in
    let w = g.R.BinEncodable.written c.args.value.now in
    let begun = take (length front - 2) front in
    let inner = w (length a.bytes + length begun + 2) a.suffixes in
    let is = err_from_is_err_and c.from_residual.result c.from_residual.ensures.1 in
    rw (is.1, is.2) (Exactly-refused (Unit {0}) (Unit {0}) (refusal c.in_err-append.field-0.0)
    (both (just begun) (sized w)) (just front) a a z z refl
    (omega (
      arith,
      length-take (length front - 2) front,
      length-append begun (to_be_bytes w16 (length inner.bytes) ++ inner.bytes),
      length-append (to_be_bytes w16 (length inner.bytes)) inner.bytes,
    )) c.in_err-append.ensures.exact)

pub returns-in_err-emit-clause-keeps : goal.returns-in_err-emit-clause-keeps
returns-in_err-emit-clause-keeps g c = Keeps-then c.append.ensures.keeps c.emit.ensures.keeps

pub returns-in_err-emit-clause-exact : goal.returns-in_err-emit-clause-exact
returns-in_err-emit-clause-exact g c =
    let front = c.args.front.now in
    let a = state_of c.args.encoder.now in
    let m = state_of c.append.new.self in
    let z = state_of c.emit.new.encoder in
    let w = g.R.BinEncodable.written c.args.value.now in
    let is = err_from_is_err_and c.from_residual-in_err-emit.result c.from_residual-in_err-emit.ensures.1 in
    rw (is.1, is.2) (Exactly-refused (Unit {0}) (Unit {0}) c.in_err-emit.field-0.0
    (both (just (take (length front - 2) front)) (sized w)) w a m z z c.append.ensures.keeps.limit
    (fits front w a m z c.requires c.in_ok-append.ensures.exact) c.in_err-emit.ensures.exact)

pub returns-clause-exact : goal.returns-clause-exact
returns-clause-exact g c =
    let z = state_of c.emit.new.encoder in
    let n = c.len_since_place-len.result in
    c.replace.ensures.state ∙ ap (λ k. overwritten (c.len.result - 2) (to_be_bytes w16 k) z)
    c.len_since_place-len.ensures
    ∙ ap (λ k. overwritten (k - 2) (to_be_bytes w16 (length z.bytes - (k - 2 + 2))) z) c.len.ensures
    ∙ filled c.args.front.now (g.R.BinEncodable.written c.args.value.now) (state_of c.args.encoder.now)
    (state_of c.append.new.self) z c.requires c.in_ok-append.ensures.exact c.in_ok-emit.ensures.exact

pub returns-clause-keeps : goal.returns-clause-keeps
returns-clause-keeps g c =
    let front = c.args.front.now in
    let a = state_of c.args.encoder.now in
    let z = state_of c.emit.new.encoder in
    let y = state_of c.replace.new.self in
    let start = c.len.result - 2 in
    let len = to_be_bytes w16 c.len_since_place-len.result in
    let k = Keeps-then c.append.ensures.keeps c.emit.ensures.keeps in
    let exact = returns-clause-exact g c in
    let as_long : length y.bytes ≡ length z.bytes =
    omega (
      arith,
      ap (λ (s : State). length s.bytes) c.replace.ensures.state,
      length-append (take start z.bytes) (len ++ drop (start + 2) z.bytes),
      length-append len (drop (start + 2) z.bytes),
      length-take start z.bytes,
      length-drop (start + 2) z.bytes,
      c.len.ensures,
      ap length c.emit.ensures.keeps.bytes,
      length-append (state_of c.append.new.self).bytes c.emit.ensures.keeps.appended,
      c.requires,
      ap (λ (s : State). length s.bytes) c.in_ok-append.ensures.exact,
      length-append a.bytes front,
    ) in
    Keeps-after (both (just (take (length front - 2) front)) (sized (g.R.BinEncodable.written c.args.value.now))) a y
    k.added exact
    (sym (ap (λ (s : State). s.suffixes) exact) ∙ ap (λ (s : State). s.suffixes) c.replace.ensures.state ∙ k.suffixes)
    k.offsets (omega (arith, k.within, as_long))
