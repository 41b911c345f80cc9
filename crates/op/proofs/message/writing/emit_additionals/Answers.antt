use Rattle.std.proofs.Common.{Result, rules}
use Rattle.std.specs.Option.{option_copied}
use Rattle.base.specs.writing.State.{State}
use Rattle.base.specs.writing.Wire.{state_of}
use Rattle.base.specs.declared.error.proto_error.ProtoError.{ProtoError}
use Rattle.op.proofs.writing.FrontLemmas.{WritesViewed, opt_items, raised_record, signature_items}
use Rattle.op.proofs.writing.RunLemmas.{first_as, goes, regrouped, stops}
use Rattle.op.specs.Composition.{WritesRecordItems}
use Rattle.op.specs.Fits.{opt_records}
use Rattle.op.specs.declared.message.writing.Written.{Written}
use Rattle.op.proofs.message.writing.emit_additionals.Goals.{After-as_ref}
use Rattle.op.proofs.message.writing.emit_additionals.Goals as goal

-- what is written of EDNS with the high bits is the OPT record
as_opt : (g : _) (c : After-as_ref g) (answer : Result Written ProtoError) (b : State)
    → WritesViewed raised_record (option_copied c.as_ref.result) (state_of c.emit_part.new.encoder) b answer
    → WritesRecordItems (opt_records c.args.code (option_copied c.args.edns))
    (state_of c.emit_part.new.encoder) answer b
as_opt g c answer b run =
    opt_items c.args.code c.high-rcode_high.result c.high-rcode_high.ensures c.args.edns
    c.map-raised.result (option_copied c.as_ref.result) _ (λ e x made. search rules)
    c.map-raised.ensures.cases c.as_ref.ensures.value (state_of c.emit_part.new.encoder) b answer run

pub returns-in_err-counted : goal.returns-in_err-counted
returns-in_err-counted g c =
    let both = stops c.in_err-counted.field-0.0 c.emit_part.ensures.keeps c.in_err-counted.ensures.run
    c.from_residual.ensures.1 tt in
    record { keeps = both.0; run = both.1 }

pub returns-in_err-with_opt : goal.returns-in_err-with_opt
returns-in_err-with_opt g c =
    let opt = first_as (as_opt g (goal.at.returns-in_err-with_opt g c).After-as_ref) c.in_err-with_opt.ensures.run in
    let rest = stops c.in_err-with_opt.field-0.0 c.add_item.ensures.keeps opt c.from_residual-in_err-with_opt.ensures.1
    tt in
    let both = goes c.in_ok-counted.counted (state_of c.emit_part.new.encoder) c.emit_part.ensures.keeps
    c.in_ok-counted.ensures.run
    (rest.0, regrouped rest.1 (λ opt b counts. counts)) in
    record { keeps = both.0; run = both.1 }

pub returns : goal.returns
returns g c =
    let opt = first_as (as_opt g (goal.at.returns g c).After-as_ref) c.in_ok-with_opt.ensures.run in
    let signed = first_as (λ answer b. signature_items (option_copied c.args.signature)
    (state_of c.add_item.new.encoder) b answer) c.add_item-2.ensures.run in
    let rest = goes c.in_ok-with_opt.with_opt (state_of c.add_item.new.encoder) c.add_item.ensures.keeps opt
    (c.add_item-2.ensures.keeps, signed) in
    let both = goes c.in_ok-counted.counted (state_of c.emit_part.new.encoder) c.emit_part.ensures.keeps
    c.in_ok-counted.ensures.run
    (rest.0, regrouped rest.1 (λ opt b counts. counts)) in
    record { keeps = both.0; run = both.1 }
