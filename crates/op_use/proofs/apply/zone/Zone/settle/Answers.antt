use Rattle.base.specs.RrKey.{key_cmp}
use Rattle.base_data.specs.declared.rdata.RData.{RData}
use Rattle.op_use.proofs.KeySets.{one_lent}
use Rattle.op_use.proofs.SettleSteps.{IsSettling, settled_all, settling_added, settling_none, settling_replaced}
use Rattle.op_use.proofs.SettleSteps.{settling_same}
use Rattle.op_use.proofs.apply.zone.Zone.settle.Goals as goal
use Rattle.op_use.specs.HeldZone.{HeldZone}
use Rattle.op_use.specs.Outcome.{Settles, each}
use Rattle.rr.specs.declared.record.Record.{Record}
use Rattle.std.proofs.Common.{List, Some, ap, drop, refl, subst, sym, take, ◌∙◌}
use Rattle.std.proofs.lemmas.Bool.{true≢false}
use Rattle.std.proofs.lemmas.List.{map-append, nil_from_length, take-append-drop, take_all}
use Rattle.std.specs.Borrow.{Bor}
use Rattle.std.specs.BTreeMap.{get}

pub loop-entry-init : goal.loop-entry-init
loop-entry-init c = λ q. (refl, refl)

pub loop-entry-preserved-in_default : goal.loop-entry-preserved-in_default
loop-entry-preserved-in_default c = settling_none _ _ _
    (one_lent c.args.entries.now c.loop-entry.entry-index c.entry-item.result c.loop-entry-test.true c.entry-item.is)
    c.args.self.now.sets c.args.now c.loop-entry.now c.remove.new.self c.args.outcome.now c.loop-entry.outcome
    c.in_ok-key.key c.in_ok-key.ensures c.loop-entry.invariant c.remove.ensures.updates.0 c.requires.new
    (sym c.in_default.ensures.value)

pub loop-entry-preserved-in_default-get : goal.loop-entry-preserved-in_default-get
loop-entry-preserved-in_default-get c = settling_added _ _ _
    (one_lent c.args.entries.now c.loop-entry.entry-index c.entry-item.result c.loop-entry-test.true c.entry-item.is)
    c.args.self.now.sets c.args.now c.loop-entry.now c.remove.new.self c.args.outcome.now c.loop-entry.outcome
    c.in_ok-key.key c.in_ok-key.ensures c.loop-entry.invariant c.remove.ensures.updates.0 c.requires.new c.in_ok-set.set
    (sym c.in-Some.ensures.value ∙ ap Some (sym c.in_ok-set.ensures)) c.args.self.now.class
    (record c.loop-entry.outcome { added = c.push.new.self }) c.requires.fits
    (ap (λ (z : HeldZone). get key_cmp z.sets c.in_ok-key.key) (sym c.self.view_is)
    ∙ sym c.in_default-get.ensures.value) c.in_ok-push.ensures.items refl refl

pub loop-entry-preserved-then-are_same : goal.loop-entry-preserved-then-are_same
loop-entry-preserved-then-are_same c = settling_same _ _ _
    (one_lent c.args.entries.now c.loop-entry.entry-index c.entry-item.result c.loop-entry-test.true c.entry-item.is)
    c.args.self.now.sets c.args.now c.loop-entry.now c.remove.new.self c.args.outcome.now c.loop-entry.outcome
    c.in_ok-key.key c.in_ok-key.ensures c.loop-entry.invariant c.remove.ensures.updates.0 c.requires.new c.in_ok-set.set
    (sym c.in-Some.ensures.value ∙ ap Some (sym c.in_ok-set.ensures)) c.in-Some-get.was.now
    (ap (λ (z : HeldZone). get key_cmp z.sets c.in_ok-key.key) (sym c.self.view_is) ∙ sym c.in-Some-get.ensures.value)
    (sym c.as_slice.ensures ∙ c.are_same.ensures.0 c.if-are_same.true ∙ c.as_slice-in-loop-entry.ensures)

pub loop-entry-preserved : goal.loop-entry-preserved
loop-entry-preserved c = settling_replaced _ _ _
    (one_lent c.args.entries.now c.loop-entry.entry-index c.entry-item.result c.loop-entry-test.true c.entry-item.is)
    c.args.self.now.sets c.args.now c.loop-entry.now c.remove.new.self c.args.outcome.now c.loop-entry.outcome
    c.in_ok-key.key c.in_ok-key.ensures c.loop-entry.invariant c.remove.ensures.updates.0 c.requires.new c.in_ok-set.set
    (sym c.in-Some.ensures.value ∙ ap Some (sym c.in_ok-set.ensures)) c.in-Some-get.was.now
    (record c.loop-entry.outcome { replaced = c.push-in-loop-entry.new.self })
    (ap (λ (z : HeldZone). get key_cmp z.sets c.in_ok-key.key) (sym c.self.view_is) ∙ sym c.in-Some-get.ensures.value)
    (λ same. true≢false (sym (c.are_same.ensures.1 (c.as_slice.ensures ∙ same ∙ sym c.as_slice-in-loop-entry.ensures))
    ∙ c.if-are_same.false)) refl c.in_ok-push-2.ensures.items refl

pub returns-then-is_empty : goal.returns-then-is_empty
returns-then-is_empty c =
    let es = c.args.entries.now in
    let i = c.loop-entry.entry-index in
    let none = nil_from_length c.loop-entry.now.entries (c.is_empty.ensures.0 c.if-is_empty.true) in
    subst (λ (rs : List (Record RData)). Settles rs c.args.self.now.sets c.args.now c.args.outcome.now
    c.loop-entry.outcome)
    (sym (map-append (λ (r : Bor (Record RData)). r.now) (take i es) (drop i es)) ∙ ap each (take-append-drop i es))
    (settled_all (each (take i es)) (each (drop i es)) c.args.self.now.sets c.args.now c.loop-entry.now
    c.args.outcome.now c.loop-entry.outcome none c.loop-entry.invariant)

pub returns : goal.returns
returns c = λ q. (subst (λ (rs : List (Record RData)).
    IsSettling rs c.args.self.now.sets c.args.now c.loop-entry.now c.args.outcome.now c.loop-entry.outcome)
    (ap each (take_all c.loop-entry.entry-index c.args.entries.now c.loop-entry-test.false)) c.loop-entry.invariant q).1
