use Rattle.authority.proofs.SetLemmas.{no_records, records_there}
use Rattle.authority.proofs.answer.soa_over.Goals as goal
use Rattle.authority.specs.Answer.{as_negative, end_like}
use Rattle.authority.specs.Found.{answered}
use Rattle.base.specs.names.Labels.{NameValue}
use Rattle.base.specs.RrKey.{key_of}
use Rattle.base.specs.declared.record_type.RecordType.TheVariants as types
use Rattle.std.proofs.Common.{ap, map, sym, ◌∙◌}
use Rattle.std.specs.Option.{option_copied}

pub returns-in_default-clause-value : goal.returns-in_default-clause-value
returns-in_default-clause-value c =
    let zone = c.args.zone.now in
    let origin = zone.origin.now in
    c.new.ensures.items ∙ sym (ap (map as_negative) (no_records origin zone.class zone.sets.now
    (end_like origin c.args.name.now) (key_of origin types.SOA) (sym c.in_ok-set.ensures
    ∙ ap option_copied c.in_default.is)))

pub returns-clause-value : goal.returns-clause-value
returns-clause-value c =
    let zone = c.args.zone.now in
    let origin = zone.origin.now in
    let s = c.in-Some.set.now in
    c.in_ok-negative_records.ensures
    ∙ ap (λ (owner : NameValue). map as_negative (answered zone.class owner s)) c.in_ok-owner.ensures.value
    ∙ sym (ap (map as_negative) (records_there origin zone.class zone.sets.now (end_like origin c.args.name.now)
    (key_of origin types.SOA) s (sym c.in_ok-set.ensures ∙ ap option_copied c.in-Some.is)))
