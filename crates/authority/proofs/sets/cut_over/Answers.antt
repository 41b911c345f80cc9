use Rattle.authority.proofs.CutLemmas.{none_dropped}
use Rattle.authority.proofs.WayLemmas.{copied_or, cut_beside, ds_is, no_cut_at, own_after}
use Rattle.authority.proofs.sets.cut_over.Goals as goal
use Rattle.authority.specs.Found.{IsCutSet}
use Rattle.authority.specs.Lookup.{highest_cut, is_ds}
use Rattle.base.specs.names.Labels.{NameValue}
use Rattle.base.specs.names.Parents.{is_below, parent}
use Rattle.op_use.specs.Applying.{zone_of_map}
use Rattle.op_use.specs.Zone.{Zone}
use Rattle.std.proofs.Common.{ap, false, refl, subst, sym, true, ◌∙◌, ◌≡◌}
use Rattle.std.specs.Option.{option_copied}
use Rattle.std.specs.Prelude.{Bool, None, Option, cond}

no_cut : (z : Zone) (n : NameValue) (b : Bool) → is_below z.origin n ≡ false
    → highest_cut z (cond b (parent n) n) ≡ None
no_cut z n false h = no_cut_at z n h
no_cut z n true h = none_dropped z n.absolute n.labels (no_cut_at z n h)

pub returns-then-not-is_below-clause-value : goal.returns-then-not-is_below-clause-value
returns-then-not-is_below-clause-value c = λ class.
    subst (λ o. IsCutSet c.args.sets.now o None)
    (sym (no_cut (zone_of_map c.args.origin.now class c.args.sets.now) c.args.name.now (is_ds c.args.record_type)
    (sym c.is_below.ensures ∙ c.if-not-is_below.true))) refl

pub returns-then-eq-clause-value : goal.returns-then-eq-clause-value
returns-then-eq-clause-value c = λ class.
    let z = zone_of_map c.args.origin.now class c.args.sets.now in
    subst (λ (x : Option NameValue). IsCutSet c.args.sets.now x (option_copied c.in_ok-highest.highest))
    (sym (cut_beside
    z c.args.record_type c.args.name.now c.in_ok-above.above true
    (ds_is c.args.record_type ∙ sym c.eq.ensures ∙ c.if-eq.true) c.in_ok-above.ensures.value))
    (c.in_ok-highest.ensures.value class)

pub returns-clause-value : goal.returns-clause-value
returns-clause-value c = λ class.
    let m = c.args.sets.now in
    let z = zone_of_map c.args.origin.now class m in
    let n = c.args.name.now in
    let highest = c.in_ok-highest.highest in
    subst (λ (x : Option NameValue). IsCutSet m x (option_copied c.or.result)) (sym (cut_beside
    z c.args.record_type n n false (ds_is c.args.record_type ∙ sym c.eq.ensures ∙ c.if-eq.false) refl))
    (subst (λ o. IsCutSet m (highest_cut z n) o)
    (sym (ap option_copied c.or.ensures ∙ copied_or highest c.args.own))
    (own_after c.args.origin.now m class n (option_copied highest) (option_copied c.args.own)
    (sym c.is_below.ensures ∙ c.if-not-is_below.false)
    (subst (λ (x : NameValue). IsCutSet m (highest_cut z x) (option_copied highest))
    c.in_ok-above.ensures.value (c.in_ok-highest.ensures.value class)) (sym c.requires)))
