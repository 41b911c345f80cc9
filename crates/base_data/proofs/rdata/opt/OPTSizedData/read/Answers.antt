use Rattle.std.proofs.Common.{◌≡◌, ◌+◌, ◌∙◌, arith, rules}
use Rattle.std.proofs.lemmas.Result.{err_from_is_err_and}
use Rattle.base.proofs.reading.TrackLemmas.{tracked_both, tracked_itself}
use Rattle.base_data.proofs.OptionLemmas.{gathered_more, gathered_fault, gathered_all, opt_at-to}
use Rattle.base_data.proofs.rdata.opt.OPTSizedData.read.Goals as goal

pub returns-in_err-read-clause-read : goal.returns-in_err-read-clause-read
returns-in_err-read-clause-read c =
    let p = err_from_is_err_and c.from_residual.result c.from_residual.ensures.1 in
    let old = c.args.decoder.now in
    let end : c.index.result + c.from.result ≡ old.index + c.args.len =
    omega (arith, c.index.ensures.value, c.from.ensures) in
    let begins = c.index-in-options.ensures.value in
    rw (p.1, p.2, opt_at-to c.args.len (c.index.result + c.from.result) old.bytes old.index end)
    (gathered_fault c.in_err-read.field-0.0 (omega (arith, c.options-test.true, begins)) c.in_err-read.ensures.read
    c.options.invariant.gathered)

pub options-init : goal.options-init
options-init c = record { gathered = search rules; tracked = tracked_itself c.args.decoder.now }

pub options-preserved : goal.options-preserved
options-preserved c =
    let begins = c.index-in-options.ensures.value in
    record {
      gathered = rw (c.in_ok-push.ensures.items, c.in_ok-read.ensures.read.1)
          (gathered_more (omega (arith, c.options-test.true, begins)) c.in_ok-read.ensures.read.0
          c.options.invariant.gathered);
      tracked = tracked_both c.options.invariant.tracked c.in_ok-read.ensures.tracks;
    }

pub returns-clause-read : goal.returns-clause-read
returns-clause-read c =
    let old = c.args.decoder.now in
    let end : c.index.result + c.from.result ≡ old.index + c.args.len =
    omega (arith, c.index.ensures.value, c.from.ensures) in
    let begins = c.index-in-options.ensures.value in (
      opt_at-to c.args.len (c.index.result + c.from.result) old.bytes old.index end
          ∙ gathered_all (omega (arith, c.options-test.false, begins)) c.options.invariant.gathered,
      c.options.invariant.gathered.same,
    )
