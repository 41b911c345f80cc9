use Rattle.op_use.proofs.ChangingSteps.{moves_so, none_updated, stays_so, updated_more}
use Rattle.op_use.proofs.KeySets.{one_lent}
use Rattle.op_use.proofs.UpdateSteps.{nothing, takes}
use Rattle.op_use.proofs.apply.changing_zone.ChangingZone.update.Goals as goal
use Rattle.op_use.proofs.apply.changing_zone.ChangingZone.update.Goals.{in-OfAny+in_ok-delete-in-OfAny}
use Rattle.op_use.proofs.apply.changing_zone.ChangingZone.update.Goals.{in-OfNone+in_ok-is_needed-in-OfNone+else-not-branch}
use Rattle.op_use.proofs.apply.changing_zone.ChangingZone.update.Goals.{in-OfNothing, in-OfZone+in_ok-add-in-OfZone}
use Rattle.op_use.proofs.apply.changing_zone.ChangingZone.update.Goals.{in-OfNone+in_ok-is_needed-in-OfNone+then-not-branch+in_ok-take_data-in-OfNone}
use Rattle.op_use.specs.HeldZone.{HeldZone}
use Rattle.op_use.specs.Outcome.{each}
use Rattle.op_use.specs.MapUpdates.{IsUpdated, use_value}
use Rattle.op_use.specs.Server.{use_of}
use Rattle.rr.specs.SetChanges.{without}
use Rattle.std.proofs.Common.{[], ap, false, not, refl, subst, sym, take, ◌∙◌, ◌∷◌}
use Rattle.std.proofs.lemmas.Result.{err_from_is_err_and}

pub loop-entry-init : goal.loop-entry-init
loop-entry-init c = none_updated c.args.self.now

pub loop-entry-preserved : goal.loop-entry-preserved
loop-entry-preserved c =
    let rs = c.args.entries.now in
    let z = c.args.self.now in
    let y = c.loop-entry.self in
    let r = c.entry-item.result.now in
    let one : IsUpdated (r ∷ []) y c.match-use_of.self = elim c.match-use_of.branch [
      | in-OfAny+in_ok-delete-in-OfAny w ↦ subst (λ (x : HeldZone). IsUpdated (r ∷ []) y x)
          (sym w.self-is) w.in_ok-delete-in-OfAny.ensures
      | in-OfNone+in_ok-is_needed-in-OfNone+then-not-branch+in_ok-take_data-in-OfNone w ↦ subst
          (λ (x : HeldZone). IsUpdated (r ∷ []) y x) (sym w.self-is)
          (moves_so y _ r (without r) _ (takes y.origin y.class y.sets r
          (ap (λ (x : HeldZone). use_of x.class r.dns_class) (sym c.self.view_is) ∙ sym c.use_of.ensures
          ∙ ap use_value w.in-OfNone.is))
          (ap not (sym w.in_ok-is_needed-in-OfNone.ensures ∙ w.if-not-branch.true)) w.in_ok-take_data-in-OfNone.ensures)
      | in-OfNone+in_ok-is_needed-in-OfNone+else-not-branch w ↦ subst (λ (x : HeldZone). IsUpdated (r ∷ []) y x)
          (sym w.self-is) (stays_so y r (without r) _ (takes y.origin y.class y.sets r
          (ap (λ (x : HeldZone). use_of x.class r.dns_class) (sym c.self.view_is) ∙ sym c.use_of.ensures
          ∙ ap use_value w.in-OfNone.is))
          (ap not (sym w.in_ok-is_needed-in-OfNone.ensures ∙ w.if-not-branch.false)))
      | in-OfZone+in_ok-add-in-OfZone w ↦ subst (λ (x : HeldZone). IsUpdated (r ∷ []) y x)
          (sym w.self-is) w.in_ok-add-in-OfZone.ensures
      | in-OfNothing w ↦ subst (λ (x : HeldZone). IsUpdated (r ∷ []) y x) (sym w.self-is)
          (stays_so y r (λ xs. xs) false (nothing y.origin y.class y.sets r
          (ap (λ (x : HeldZone). use_of x.class r.dns_class) (sym c.self.view_is) ∙ sym c.use_of.ensures
          ∙ ap use_value w.in-OfNothing.is)) refl)
    ] in
    subst (λ us. IsUpdated us z c.match-use_of.self)
    (one_lent rs c.loop-entry.entry-index c.entry-item.result c.loop-entry-test.true c.entry-item.is)
    (updated_more (each (take c.loop-entry.entry-index rs)) (r ∷ []) z y c.match-use_of.self c.loop-entry.invariant one)

pub returns-in_err-delete-in-OfAny : goal.returns-in_err-delete-in-OfAny
returns-in_err-delete-in-OfAny c =
    let p = err_from_is_err_and c.from_residual.result c.from_residual.ensures.1 in
    rw p.1 tt

pub returns-in_err-is_needed-in-OfNone : goal.returns-in_err-is_needed-in-OfNone
returns-in_err-is_needed-in-OfNone c =
    let p = err_from_is_err_and c.from_residual-in_err-is_needed-in-OfNone.result
    c.from_residual-in_err-is_needed-in-OfNone.ensures.1 in
    rw p.1 tt

pub returns-in_err-add-in-OfZone : goal.returns-in_err-add-in-OfZone
returns-in_err-add-in-OfZone c =
    let p = err_from_is_err_and c.from_residual-in_err-add-in-OfZone.result
    c.from_residual-in_err-add-in-OfZone.ensures.1 in
    rw p.1 tt

pub delete-requires : goal.delete-requires
delete-requires c = ap (λ (x : HeldZone). use_of x.class c.entry-item.result.now.dns_class) (sym c.self.view_is)
    ∙ sym c.use_of.ensures ∙ ap use_value c.in-OfAny.is

pub add-requires : goal.add-requires
add-requires c = ap (λ (x : HeldZone). use_of x.class c.entry-item.result.now.dns_class) (sym c.self.view_is)
    ∙ sym c.use_of.ensures ∙ ap use_value c.in-OfZone.is
