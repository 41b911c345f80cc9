use Rattle.authority.proofs.AnswerLemmas.{no_alias}
use Rattle.authority.proofs.SetLemmas.{all_records, no_records, records_there}
use Rattle.authority.proofs.found.found_at.Goals as goal
use Rattle.authority.specs.Found.{IsAlias}
use Rattle.authority.specs.Lookup.{Data, alias_at, alias_else, asked}
use Rattle.base.specs.names.Labels.{NameValue}
use Rattle.base_data.specs.declared.rdata.RData.{RData}
use Rattle.op_use.proofs.TypeSteps.{any_is}
use Rattle.op_use.specs.Applying.{zone_of_map}
use Rattle.rr.specs.declared.record.Record.{Record}
use Rattle.std.proofs.Common.{Option, ap, subst, sym, ◌∙◌}
use Rattle.std.proofs.lemmas.Bool.{cond-false, cond-true}
use Rattle.std.specs.Option.{option_copied}

pub returns-in-Some-clause-found : goal.returns-in-Some-clause-found
returns-in-Some-clause-found c = λ class origin n.
    let z = zone_of_map origin class c.args.sets.now in
    let source = c.args.source.now in
    let is = subst (λ found. IsAlias class n found (alias_at z c.args.record_type n source)) c.in-Some.is
    (c.alias_at.ensures.found class origin n source c.args.sets.now c.requires.2) in (
      is.0,
      ap (λ (a : Option (Record RData × NameValue)). alias_else a (asked z c.args.record_type n source)) is.1,
      is.2,
    )

pub returns-then-eq-clause-found : goal.returns-then-eq-clause-found
returns-then-eq-clause-found c = λ class origin n.
    let z = zone_of_map origin class c.args.sets.now in
    let source = c.args.source.now in
    no_alias class n c.alias_at.result (alias_at z c.args.record_type n source) (asked z c.args.record_type n source)
    c.in_default.is (c.alias_at.ensures.found class origin n source c.args.sets.now c.requires.2)
    ∙ ap Data (cond-true _ _ _ (any_is c.args.record_type ∙ sym c.eq.ensures ∙ c.if-eq.true)
    ∙ all_records class n source c.args.sets.now.entries c.in_ok-sets_of.field-0.items
    c.in_ok-sets_of.ensures.ordered c.in_ok-sets_of.ensures.value)

pub returns-in-Some-asked-clause-found : goal.returns-in-Some-asked-clause-found
returns-in-Some-asked-clause-found c = λ class origin n.
    let z = zone_of_map origin class c.args.sets.now in
    let source = c.args.source.now in
    no_alias class n c.alias_at.result (alias_at z c.args.record_type n source) (asked z c.args.record_type n source)
    c.in_default.is (c.alias_at.ensures.found class origin n source c.args.sets.now c.requires.2)
    ∙ ap Data (cond-false _ _ _ (any_is c.args.record_type ∙ sym c.eq.ensures ∙ c.if-eq.false)
    ∙ records_there origin class c.args.sets.now n _ c.in-Some-asked.set.now (sym c.requires.3
    ∙ ap option_copied c.in-Some-asked.is))

pub returns-in-None-clause-found : goal.returns-in-None-clause-found
returns-in-None-clause-found c = λ class origin n.
    let z = zone_of_map origin class c.args.sets.now in
    let source = c.args.source.now in
    no_alias class n c.alias_at.result (alias_at z c.args.record_type n source) (asked z c.args.record_type n source)
    c.in_default.is (c.alias_at.ensures.found class origin n source c.args.sets.now c.requires.2)
    ∙ ap Data (cond-false _ _ _ (any_is c.args.record_type ∙ sym c.eq.ensures ∙ c.if-eq.false)
    ∙ no_records origin class c.args.sets.now n _ (sym c.requires.3 ∙ ap option_copied c.in-None.is))
