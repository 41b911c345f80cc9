use Rattle.base.specs.names.NameOrder.{same_name}
use Rattle.base.specs.RecordType.{same_type}
use Rattle.op_use.proofs.KeySteps.{same_key_is}
use Rattle.op_use.proofs.apply.prerequisites.is_of_set.Goals as goal
use Rattle.op_use.proofs.apply.prerequisites.is_of_set.Goals.{else-matches, then-matches}
use Rattle.op_use.specs.MapFaults.{is_by_value}
use Rattle.op_use.specs.Server.{is_same_key}
use Rattle.rr.specs.Record.{type_of_record}
use Rattle.std.proofs.Common.{ap, rules, sym, true, ◌&&◌, ◌∙◌, ◌≡◌}
use Rattle.std.proofs.lemmas.Bool.{true≢false}

pub returns-then-eq : goal.returns-then-eq
returns-then-eq c =
    let by_value : c.match-matches.matches ≡ is_by_value c.args.class c.args.listed.now = search rules in
    let both : (is_by_value c.args.class c.args.listed.now ≡ true)
    × (same_type (type_of_record c.args.entry.now) (type_of_record c.args.listed.now) ≡ true) =
    elim c.if-matches.branch [
      | then-matches w ↦ (
        sym by_value ∙ w.if-matches.true,
        (λ i. same_type (sym w.record_type.ensures i) (sym w.record_type-then-matches.ensures i)) ∙ sym w.eq.ensures
            ∙ sym w.value-is ∙ c.if-eq.true,
      )
      | else-matches w ↦ absurd (true≢false (sym c.if-eq.true ∙ w.value-is ∙ w.if-matches.false))
    ] in
    c.eq-then-eq.ensures
    ∙ ap (λ b. b && same_name c.args.entry.now.name c.args.listed.now.name) (sym both.1)
    ∙ same_key_is c.args.entry.now.name c.args.listed.now.name (type_of_record c.args.entry.now)
    (type_of_record c.args.listed.now)
    ∙ ap (λ b. b && is_same_key c.args.entry.now c.args.listed.now) (sym both.0)
