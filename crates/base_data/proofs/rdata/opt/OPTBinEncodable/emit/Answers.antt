use Rattle.std.proofs.Common.{◌<◌, ◌≡◌, ap, refl, subst, sym, get_or, length, ◌∙◌, arith}
use Rattle.std.proofs.lemmas.List.Elements.{All-nil, All-more}
use Rattle.std.proofs.lemmas.Result.{err_from_is_err_and}
use Rattle.base.proofs.writing.LawLemmas.{Keeps-same, Keeps-then}
use Rattle.base.proofs.writing.WrittenLemmas.{Exactly-in_turn, after-more, after-none}
use Rattle.base.specs.writing.Wire.{state_of}
use Rattle.base.specs.writing.Written.{after}
use Rattle.base_data.specs.OPT.{FitsOption, option_written}
use Rattle.base_data.proofs.rdata.opt.OPTBinEncodable.emit.Goals as goal

pub loop-option-init : goal.loop-option-init
loop-option-init c = record {
  keeps = Keeps-same _ _ refl;
  fits = All-nil FitsOption;
  exact =
      sym (after-none (state_of c.args.encoder.now));
}

pub loop-option-preserved : goal.loop-option-preserved
loop-option-preserved c =
    let same : c.deref-option-items.result.now ≡ c.args.self.now =
    c.deref-option-items.ensures.value ∙ c.self.view_is in
    let i = c.loop-option.option-index in
    let option = c.option-item.result in
    let inside : i < length c.args.self.now = omega (arith, c.loop-option-test.true, ap length same) in
    let at = c.option-item.is ∙ ap (λ xs. get_or xs i option) same in
    record {
      keeps = Keeps-then c.loop-option.invariant.keeps c.in_ok-emit.ensures.keeps;
      fits = All-more FitsOption c.args.self.now i option inside c.loop-option.invariant.fits
          (subst FitsOption at c.in_ok-emit.ensures.fits);
      exact = c.in_ok-emit.ensures.exact ∙ ap (after (option_written option))
          c.loop-option.invariant.exact ∙ sym (after-more option_written c.args.self.now i option
          (state_of c.args.encoder.now) inside at);
    }

pub returns-in_err-emit-clause-exact : goal.returns-in_err-emit-clause-exact
returns-in_err-emit-clause-exact c =
    let p = err_from_is_err_and c.from_residual.result c.from_residual.ensures.1 in
    let same : c.deref-option-items.result.now ≡ c.args.self.now =
    c.deref-option-items.ensures.value ∙ c.self.view_is in
    let i = c.loop-option.option-index in
    let option = c.option-item.result in
    let inside : i < length c.args.self.now = omega (arith, c.loop-option-test.true, ap length same) in
    rw (p.1, p.2) (Exactly-in_turn option_written c.args.self.now i option (Unit {0}) (Unit {0})
    c.in_err-emit.field-0.0 (state_of c.args.encoder.now) (state_of c.loop-option.encoder)
    (state_of c.emit.new.encoder) inside
    (c.option-item.is ∙ ap (λ xs. get_or xs i option) same) c.loop-option.invariant.exact c.in_err-emit.ensures.exact)
