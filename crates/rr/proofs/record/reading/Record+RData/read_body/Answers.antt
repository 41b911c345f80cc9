use Rattle.std.proofs.Common.{◌≡◌, ℕ, List, length, ◌-◌, ◌<◌, ◌+◌, ◌∙◌, Ok, Err, sym, arith}
use Rattle.std.proofs.lemmas.Result.{err_from_is_err_and}
use Rattle.base.proofs.reading.TrackLemmas.{bounded_here, tracked_both}
use Rattle.base.specs.reading.Tracks.{Tracked}
use Rattle.base.specs.reading.Reading.{Fails}
use Rattle.base.specs.declared.error.decode_error.DecodeError.TheVariants.{IncorrectRDataLengthRead}
use Rattle.base_data.specs.Kinds.{data_places}
use Rattle.base_data.specs.RData.{rdata_at}
use Rattle.base_data.proofs.DataRows.{data_says}
use Rattle.rr.proofs.RecordFaults.{body_cut, body_long}
use Rattle.rr.proofs.ReadSteps.{body_read, data_fails, over_both, placed, room}
use Rattle.rr.proofs.record.reading.Record+RData.read_body.Goals as goal

pub returns-in_err-class-clause-read : goal.returns-in_err-class-clause-read
returns-in_err-class-clause-read c =
    let p = err_from_is_err_and c.from_residual.result c.from_residual.ensures.1 in
    let at = c.args.decoder.now in
    let short = c.in_err-class.ensures.short in
    rw (p.1, p.2, short.0) (body_cut c.args.self.now.name c.args.record_type at.bytes at.index short.1)

pub returns-in_err-class-clause-tracks : goal.returns-in_err-class-clause-tracks
returns-in_err-class-clause-tracks c =
    let p = err_from_is_err_and c.from_residual.result c.from_residual.ensures.1 in
    rw p.1 c.in_err-class.ensures.tracks

pub returns-then-left-from-clause-read : goal.returns-then-left-from-clause-read
returns-then-left-from-clause-read c =
    let at = c.args.decoder.now in
    let len = c.in_ok-class.field-0.len in
    let after = c.in_ok-class.ensures.after in
    let counted = c.in_ok-class.ensures.found.2 in
    let left = c.len-left.ensures.left ∙ placed after.1 after.0 (λ (B : List ℕ) (k : ℕ). length B - k) in
    let short : length at.bytes < at.index + 8 + len =
    omega (arith, c.if-left-from.true, left, c.from.ensures, counted.inside) in
    body_long c.args.self.now.name c.args.record_type at.bytes at.index len counted short
    ∙ (λ i. Err (IncorrectRDataLengthRead (sym left i) (sym c.from-then-left-from.ensures i)))

pub returns-then-left-from-clause-tracks : goal.returns-then-left-from-clause-tracks
returns-then-left-from-clause-tracks c = bounded_here c.in_ok-class.ensures.tracks

pub returns-in_err-read_in_place-clause-read : goal.returns-in_err-read_in_place-clause-read
returns-in_err-read_in_place-clause-read c =
    let p = err_from_is_err_and c.from_residual-in_err-read_in_place.result
    c.from_residual-in_err-read_in_place.ensures.1 in
    let at = c.args.decoder.now in
    let owner = c.args.self.now.name in
    let found = c.in_ok-class.ensures.found in
    let after = c.in_ok-class.ensures.after in
    let left = c.len-left.ensures.left ∙ placed after.1 after.0 (λ (B : List ℕ) (k : ℕ). length B - k) in
    let fits = room owner c.args.record_type at.bytes at.index found.0 found.1 found.2 left c.from.ensures
    c.if-left-from.false in
    let fault = c.in_err-read_in_place.field-0.0 in
    rw (p.1, p.2) (data_fails owner c.args.record_type at.bytes at.index found.0 found.1 found.2 fits fault
    (over_both after.1 after.0 (λ (B : List ℕ) (k : ℕ). Fails fault
    (rdata_at c.args.record_type c.in_ok-class.field-0.len B k)) c.in_err-read_in_place.ensures.read))

pub returns-clause-read : goal.returns-clause-read
returns-clause-read c =
    let at = c.args.decoder.now in
    let owner = c.args.self.now.name in
    let found = c.in_ok-class.ensures.found in
    let after = c.in_ok-class.ensures.after in
    let kind = c.class_of_field-dns_class in
    let rdata = c.in_ok-read_in_place.ensures.read in
    let left = c.len-left.ensures.left ∙ placed after.1 after.0 (λ (B : List ℕ) (k : ℕ). length B - k) in
    let fits = room owner c.args.record_type at.bytes at.index found.0 found.1 found.2 left c.from.ensures
    c.if-left-from.false in
    let rdata_is = over_both after.1 after.0 (λ (B : List ℕ) (k : ℕ).
    rdata_at c.args.record_type c.in_ok-class.field-0.len B k ≡ Ok
    (c.read_in_place.new.self, c.read_in_place.new.decoder.index)) rdata.0 in (
      body_read owner c.args.record_type at.bytes at.index found.0 found.1 found.2 fits rdata_is kind.ensures.class
          kind.ensures.flush,
      rdata.1 ∙ after.1,
    )

pub returns-clause-type_is : goal.returns-clause-type_is
returns-clause-type_is c =
    let begun = c.read_fields.new.decoder in
    (data_says c.args.record_type c.in_ok-class.field-0.len begun.bytes begun.index
    (c.read_in_place.new.self, c.read_in_place.new.decoder.index) c.in_ok-read_in_place.ensures.read.0).0.type_is

pub returns-clause-tracks : goal.returns-clause-tracks
returns-clause-tracks c =
    let after = c.in_ok-class.ensures.after in
    over_both after.1 after.0 (λ (B : List ℕ) (k : ℕ). Tracked
    (data_places c.read_in_place.new.self B k) c.args.decoder.now
    c.read_in_place.new.decoder)
    (tracked_both c.in_ok-class.ensures.tracks c.in_ok-read_in_place.ensures.tracks)
