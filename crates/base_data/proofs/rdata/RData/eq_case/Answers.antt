use Rattle.base_data.proofs.SameNames.{equal_to_itself, identical}
use Rattle.base_data.proofs.rdata.RData.eq_case.Goals as goal
use Rattle.base_data.proofs.rdata.RData.eq_case.Goals.{then-eq, else-eq}
use Rattle.base_data.specs.Kinds.{data_names}
use Rattle.base_data.specs.SameData.{same_data}
use Rattle.base_data.specs.declared.rdata.RData.{RData}
use Rattle.std.proofs.Common.{ap, false, rules, sym, true, ◌≡◌, ◌∙◌}
use Rattle.std.proofs.lemmas.Bool.{true≢false}
use Rattle.std.specs.Prelude.{slice_get}

pub returns-then-is_same_name : goal.returns-then-is_same_name
returns-then-is_same_name c = elim c.if-eq.branch [
  | then-eq w ↦
      let same : same_data c.args.self.now c.args.other.now ≡ true = search rules in (
        λ h. identical c.args.self.now c.args.other.now c.names.ensures.count c.names-2.ensures.count same
            (sym c.names.ensures.first ∙ w.is_same_name.ensures.0 (sym w.value-is ∙ c.if-is_same_name.true)
            ∙ c.names-2.ensures.first)
            (sym c.names.ensures.second ∙ c.is_same_name-then-is_same_name.ensures.0 h ∙ c.names-2.ensures.second),
        λ e. c.is_same_name-then-is_same_name.ensures.1
            (c.names.ensures.second ∙ ap (λ (d : RData). slice_get (data_names d) 1) e ∙ sym c.names-2.ensures.second),
      )
  | else-eq w ↦ absurd (true≢false (sym c.if-is_same_name.true ∙ w.value-is ∙ w.if-eq.false))
]

pub returns-else-is_same_name : goal.returns-else-is_same_name
returns-else-is_same_name c = (
  λ h. absurd (true≢false (sym h ∙ c.if-is_same_name.false)),
  λ e. elim c.if-eq.branch [
    | then-eq w ↦ w.value-is ∙ w.is_same_name.ensures.1
        (c.names.ensures.first ∙ ap (λ (d : RData). slice_get (data_names d) 0) e ∙ sym c.names-2.ensures.first)
    | else-eq w ↦
        let other : same_data c.args.self.now c.args.other.now ≡ false = search rules in
        absurd (true≢false (sym (equal_to_itself _ _ e) ∙ other))
  ],
)
