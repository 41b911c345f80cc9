use Rattle.authority.proofs.AnswerLemmas.{alias_from, leads, leads_nowhere}
use Rattle.authority.proofs.SetLemmas.{no_records, records_there}
use Rattle.authority.proofs.found.alias_at.Goals as goal
use Rattle.authority.specs.Found.{IsAlias}
use Rattle.authority.specs.Lookup.{alias_at, alias_in, first_target}
use Rattle.base.specs.names.Labels.{NameValue}
use Rattle.op_use.specs.Applying.{zone_of_map}
use Rattle.rr.specs.RecordSet.{SetValue}
use Rattle.std.proofs.Common.{Bor, Option, ap, rules, subst, sym, ◌∙◌}
use Rattle.std.specs.Option.{option_copied}

pub returns-in_err-set : goal.returns-in_err-set
returns-in_err-set c = record {
  found = λ class origin n source sets there.
      let z = zone_of_map origin class sets in
      let t = c.args.record_type in
      subst (λ (r : Option (Bor SetValue × Bor NameValue)). IsAlias class n r (alias_at z t n source))
      (sym c.from_residual.ensures)
      (alias_from z t n source (sym c.eq.ensures ∙ c.if-eq.false) (sym c.eq-2.ensures ∙ c.if-eq-2.false)
      ∙ ap alias_in (no_records origin class sets n _ (sym there ∙ ap option_copied c.in_err-set.was)));
}

pub returns-in_err-target : goal.returns-in_err-target
returns-in_err-target c = record {
  found = λ class origin n source sets there.
      let z = zone_of_map origin class sets in
      let t = c.args.record_type in
      let set = c.in_ok-set.set.now in
      subst (λ (r : Option (Bor SetValue × Bor NameValue)). IsAlias class n r (alias_at z t n source))
      (sym c.from_residual-in_err-target.ensures)
      (alias_from z t n source (sym c.eq.ensures ∙ c.if-eq.false) (sym c.eq-2.ensures ∙ c.if-eq-2.false)
      ∙ ap alias_in (records_there origin class sets n _ set (sym there ∙ ap option_copied c.in_ok-set.was))
      ∙ leads_nowhere class n set.records (ap first_target (sym c.as_slice.ensures) ∙ sym c.target_of.ensures
      ∙ ap option_copied c.in_err-target.was));
}

pub returns : goal.returns
returns c = record {
  found = λ class origin n source sets there.
      let z = zone_of_map origin class sets in
      let t = c.args.record_type in
      let set = c.in_ok-set.set.now in
      let led = leads class n c.in_ok-target.target.now set.records (ap first_target (sym c.as_slice.ensures)
      ∙ sym c.target_of.ensures ∙ ap option_copied c.in_ok-target.was) in (
        led.0,
        alias_from z t n source (sym c.eq.ensures ∙ c.if-eq.false) (sym c.eq-2.ensures ∙ c.if-eq-2.false)
            ∙ ap alias_in (records_there origin class sets n _ set (sym there ∙ ap option_copied c.in_ok-set.was))
            ∙ led.1,
        led.1,
      );
}

pub returns-then-eq : goal.returns-then-eq
returns-then-eq c = search rules
