use Rattle.std.proofs.Common.{◌≡◌, [], ◌∷◌, length, length-append, ap, sym, ◌∙◌, arith, refl, rules}
use Rattle.std.proofs.Math.Seq.{take-append_seam}
use Rattle.std.proofs.lemmas.List.Elements.{All-append, All-cons, All-nil}
use Rattle.std.proofs.lemmas.Option.{IfSome_then}
use Rattle.base.specs.writing.State.{State}
use Rattle.base.specs.writing.Wire.{state_of}
use Rattle.base.specs.writing.Written.{after, piece_at}
use Rattle.base.proofs.writing.LawLemmas.{Keeps-same, Keeps-then}
use Rattle.base.proofs.writing.ItemLemmas.{Turn-valid, Yields-push, cut-Keeps}
use Rattle.base.proofs.writing.WrittenLemmas.{after-none, after-push}
use Rattle.base.proofs.wire.encoder.items.BinEncoder.emit_from.Goals as goal

pub roll_back-requires : goal.roll_back-requires
roll_back-requires g c =
    rw (c.mark-mark.ensures.len, c.mark-mark.ensures.count, c.in-Err.ensures.keeps.suffixes, take-append_seam)
    c.loop-next.self.below

pub returns-in-MaxBufferSizeExceeded : goal.returns-in-MaxBufferSizeExceeded
returns-in-MaxBufferSizeExceeded g c =
    let was = c.loop-next.invariant.written in
    let s = state_of c.loop-next.self in
    let new = state_of c.emit.new.encoder in
    let item = c.in-Some.item in
    let rolled : state_of c.roll_back.new.self ≡ s =
    rw (c.roll_back.ensures, c.mark-mark.ensures.len, c.mark-mark.ensures.count)
    (cut-Keeps s new c.in-Err.ensures.keeps) in
    let passes = rw c.in-MaxBufferSizeExceeded.is at c.in-Err.ensures.exact in
    let bytes = ap (λ (u : State). length u.bytes) rolled in
    let piece = ap (λ (u : State). length (piece_at (g.E.BinEncodable.written item) u).bytes) rolled in
    let keeps = was.2 in
    rw rolled (record {
      keeps = keeps;
      valid = Turn-valid g.E.BinEncodable.written g.E.BinEncodable.fits g.E.BinEncodable.word g.E.BinEncodable.plain_len
          g.E.BinEncodable.owner g.met.E.BinEncodable.says was.0 was.1 _ _ was.3 keeps.within c.args.self.now.narrow;
      emits = λ before gave. (
        was.0,
        item,
        rw c.in-Some.is at (was.5 before gave),
        was.1,
        was.4,
        was.3,
        omega (arith, keeps.within, bytes),
        omega (arith, passes, keeps.limit, bytes, piece),
      );
    })

pub returns-in_default-error-clause-keeps : goal.returns-in_default-error-clause-keeps
returns-in_default-error-clause-keeps g c =
    Keeps-then c.loop-next.invariant.written.2 c.in-Err.ensures.keeps

pub loop-next-preserved : goal.loop-next-preserved
loop-next-preserved g c =
    let was = c.loop-next.invariant.written in
    let item = c.in-Some.item in
    let s = state_of c.loop-next.self in
    let can = rw c.in-Some.is at c.loop-next.invariant.goes in
    record {
      written = (
        _,
        All-append g.E.BinEncodable.fits was.0 (item ∷ []) was.1
            (All-cons g.E.BinEncodable.fits item [] c.in-Ok.ensures.fits (All-nil g.E.BinEncodable.fits)),
        Keeps-then was.2 c.in-Ok.ensures.keeps,
        c.in-Ok.ensures.exact ∙ ap (after (g.E.BinEncodable.written item)) was.3
            ∙ sym (after-push g.E.BinEncodable.written _ item (state_of c.args.self.now)),
        omega (arith, length-append was.0 (item ∷ []), was.4),
        λ before gave. (
          c.loop-next.items,
          Yields-push g.I.Iterator.next_gives was.0 item before c.loop-next.items
              (rw c.in-Some.is at (was.5 before gave)),
          c.next-next.ensures.steps,
        ),
      );
      goes = IfSome_then c.next-next.result (c.next-next.ensures.goes.on can.1)
          (λ _ h. (h.0, h.1, omega (arith, can.2, h.2)));
    }

pub returns-clause-keeps : goal.returns-clause-keeps
returns-clause-keeps g c = c.loop-next.invariant.written.2

pub returns-clause-valid : goal.returns-clause-valid
returns-clause-valid g c =
    let was = c.loop-next.invariant.written in
    Turn-valid g.E.BinEncodable.written g.E.BinEncodable.fits g.E.BinEncodable.word g.E.BinEncodable.plain_len
    g.E.BinEncodable.owner g.met.E.BinEncodable.says was.0 was.1 _ _ was.3 was.2.within c.args.self.now.narrow

pub loop-next-init : goal.loop-next-init
loop-next-init g c =
    let kept = Keeps-same (state_of c.args.self.now) (state_of c.args.self.now) refl in
    let none = All-nil g.E.BinEncodable.fits in
    let same = sym (after-none (state_of c.args.self.now)) in
    search rules
