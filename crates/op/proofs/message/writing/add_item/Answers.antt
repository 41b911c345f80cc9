use Rattle.std.proofs.Common.{◌≡◌, ◌+◌, ◌<◌, ◌^◌, false, Ok, Result, refl, sym, rules, arith}
use Rattle.std.proofs.Math.Bool.{or-false}
use Rattle.std.specs.Option.{option_copied}
use Rattle.base.proofs.writing.LawLemmas.{Keeps-same}
use Rattle.base.specs.writing.Wire.{state_of}
use Rattle.base.specs.declared.error.proto_error.ProtoError.{ProtoError}
use Rattle.op.proofs.writing.FrontLemmas.{none_written, one_item}
use Rattle.op.proofs.writing.RunLemmas.{goes, stops}
use Rattle.op.specs.Composition.{AddsCounts, CountsItems, WritesItems}
use Rattle.op.specs.Fits.{as_list}
use Rattle.op.specs.declared.message.writing.Written.{Written}
use Rattle.op.proofs.message.writing.add_item.Goals.{After-emit_all}
use Rattle.op.proofs.message.writing.add_item.Goals as goal

-- what was counted of the one item was written
counted : (g : _) (c : After-emit_all g) (answer : Result Written ProtoError) → CountsItems c.emit_all.result answer
    → WritesItems g.E.BinEncodable.fits g.E.BinEncodable.written (as_list (option_copied c.args.item))
    (state_of c.args.encoder.now) answer
    (state_of c.emit_all.new.self)
counted g c answer counts =
    rw c.in-Some.is (one_item g.E.BinEncodable.fits g.E.BinEncodable.written c.in-Some.item c.once.result
    c.emit_all.new.items _ _
    c.emit_all.result answer c.once.ensures.item c.emit_all.ensures.emits counts)

-- no item, counted
abbrev none : Written
none = record { count = 0; is_cut = false }

-- without an item the count stays
adds_none : (w : Written) → w.count < 2 ^ 16 → AddsCounts w none (Ok w)
adds_none w narrow =
    let still : w.count ≡ w.count + 0 = omega arith in
    (omega (arith, narrow), λ i. record { count = still i; is_cut = sym (or-false w.is_cut) i })

pub returns-in_default-clause-keeps : goal.returns-in_default-clause-keeps
returns-in_default-clause-keeps g c = Keeps-same _ _ refl

pub returns-in_default-clause-run : goal.returns-in_default-clause-run
returns-in_default-clause-run g c =
    let at = state_of c.args.encoder.now in
    rw c.in_default.is (record {
      answer = Ok none;
      between = at;
      ran = none_written g.E.BinEncodable.fits g.E.BinEncodable.written at (Ok none) (omega arith, refl);
      rest = (adds_none c.args.before (search rules), refl);
    })

pub returns-in_err-written : goal.returns-in_err-written
returns-in_err-written g c =
    let ran = counted g (goal.at.returns-in_err-written g c).After-emit_all _ c.in_err-written.ensures in
    let both = stops c.in_err-written.field-0.0 c.emit_all.ensures.keeps ran c.from_residual.ensures.1 tt in
    record { keeps = both.0; run = both.1 }

pub returns : goal.returns
returns g c =
    let ran = counted g (goal.at.returns g c).After-emit_all _ c.in_ok-written.ensures in
    let both = goes c.in_ok-written.written _ c.emit_all.ensures.keeps ran
    (Keeps-same _ _ refl, (c.add_counts.ensures, refl)) in
    record { keeps = both.0; run = both.1 }
