use Rattle.op_use.proofs.ToldSteps.{any_told}
use Rattle.op_use.proofs.apply.outcome.Outcome.has_any.Goals as goal
use Rattle.op_use.proofs.apply.outcome.Outcome.has_any.Goals.{else-is_empty, else-is_empty-2, then-is_empty}
use Rattle.op_use.proofs.apply.outcome.Outcome.has_any.Goals.{then-is_empty-2}
use Rattle.op_use.specs.Outcome.{HasAny}
use Rattle.std.proofs.Common.{Bool, ap, length, not, refl, subst, sym, ◌&&◌, ◌==◌, ◌≡◌, ◌∙◌}

pub returns : goal.returns
returns c =
    let o = c.args.self.now in
    let a : Bool = length o.added.items == 0 in
    let r : Bool = length o.replaced.items == 0 in
    let g : Bool = length o.gone.items == 0 in
    let added : a ≡ c.is_empty.result = ap (λ n. n == 0) (sym o.added.ok.0) ∙ sym c.is_empty.ensures in
    let both : c.if-is_empty.value ≡ (a && r) = elim c.if-is_empty.branch [
      | then-is_empty w ↦ w.value-is ∙ w.is_empty-then-is_empty.ensures ∙ ap (λ n. n == 0) o.replaced.ok.0
          ∙ sym (ap (λ b. b && r) (added ∙ w.if-is_empty.true))
      | else-is_empty w ↦ w.value-is ∙ w.if-is_empty.false ∙ sym (ap (λ b. b && r) (added ∙ w.if-is_empty.false))
    ] in
    let all : c.if-is_empty-2.result ≡ ((a && r) && g) = elim c.if-is_empty-2.branch [
      | then-is_empty-2 w ↦ w.result-is ∙ w.is_empty-then-is_empty-2.ensures ∙ ap (λ n. n == 0) o.gone.ok.0
          ∙ sym (ap (λ b. b && g) (sym both ∙ w.if-is_empty-2.true))
      | else-is_empty-2 w ↦ w.result-is ∙ w.if-is_empty-2.false
          ∙ sym (ap (λ b. b && g) (sym both ∙ w.if-is_empty-2.false))
    ] in
    subst (λ b. HasAny (not b) o) (sym all) (any_told o a r g refl refl refl)
