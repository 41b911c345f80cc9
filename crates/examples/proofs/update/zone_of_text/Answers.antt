use Rattle.std.proofs.Common.{subst, sym, ◌∙◌}
use Rattle.std.proofs.lemmas.Result.{err_from_is_err_and}
use Rattle.base.specs.texts.TextFaults.{FailsWith}
use Rattle.parsed_zone.proofs.ZoneMaps.{parsed_map}
use Rattle.examples.proofs.CallerLemmas.{read_alone}
use Rattle.examples.proofs.update.zone_of_text.Goals as goal

pub returns-clause-zone : goal.returns-clause-zone
returns-clause-zone c = record {
  last_origin = c.in_ok-sets.field-0-0;
  parsed = read_alone c.args.origin.now c.in_ok-clone.field-0 c.args.text.now c.new-includes.result c.new.result
      c.in_ok-clone.ensures.cases c.new-includes.ensures.empty c.new.ensures
      ∙ c.in_ok-sets.ensures.zone;
  is_map = parsed_map c.in_ok-sets.sets c.in_ok-sets.ensures.kept
      (sym c.are_sets_in.ensures ∙ c.if-not-are_sets_in.false);
}

pub returns-in_err-sets-clause-refused : goal.returns-in_err-sets-clause-refused
returns-in_err-sets-clause-refused c =
    let p = err_from_is_err_and c.from_residual-in_err-sets.result c.from_residual-in_err-sets.ensures.1 in
    rw (p.1, p.2) (subst (λ made. FailsWith c.in_err-sets.field-0.0 made)
    (sym (read_alone c.args.origin.now c.in_ok-clone.field-0 c.args.text.now c.new-includes.result c.new.result
    c.in_ok-clone.ensures.cases c.new-includes.ensures.empty c.new.ensures))
    c.in_err-sets.ensures.zone)
