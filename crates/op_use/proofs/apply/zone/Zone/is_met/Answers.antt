use Rattle.base.specs.RrKey.{key_cmp}
use Rattle.op_use.proofs.ListedSteps.{both_known, complete_is, known_more, none_there, not_listed, there_is}
use Rattle.op_use.proofs.apply.zone.Zone.is_met.Goals as goal
use Rattle.op_use.specs.HeldZone.{HeldZone}
use Rattle.op_use.specs.MapFaults.{AreComplete, asks_for, complete_at, there_under}
use Rattle.rr.specs.Record.{record_key}
use Rattle.rr.specs.SetChanges.{has_data_of}
use Rattle.std.proofs.Common.{Some, ap, is_some, sym, ◌&&◌, ◌≡◌, ◌∙◌}
use Rattle.std.proofs.lemmas.Result.{IfOk-weaker}
use Rattle.std.specs.BTreeMap.{get}
use Rattle.std.specs.List.{list_all, list_any}

pub returns-then-not-branch-clause-met : goal.returns-then-not-branch-clause-met
returns-then-not-branch-clause-met c =
    let z = c.args.self.now in
    let r = c.args.entry.now in
    let there = ap (λ (y : HeldZone). get key_cmp y.sets c.in_ok-key.key) (sym c.self.view_is)
    ∙ sym c.in-Some.ensures.value in
    let found = sym c.if-not-branch.true ∙ c.in_ok-are_listed.ensures
    ∙ ap (λ (y : HeldZone). list_all (λ x. list_any (asks_for y.class c.args.entry.now x) c.args.entries.now)
    c.as_slice-records.result.now) c.self.view_is in
    not_listed z.sets z.class c.args.entries.now r c.in_ok-key.key c.in_ok-key.ensures
    (complete_is z.sets z.class c.args.entries.now r c.in_ok-key.key c.in-Some.set.now c.as_slice-records.result.now _
    c.in_ok-key.ensures there c.as_slice-records.ensures found)

pub returns-clause-met : goal.returns-clause-met
returns-clause-met c =
    let z = c.args.self.now in
    let r = c.args.entry.now in
    let there = ap (λ (y : HeldZone). get key_cmp y.sets c.in_ok-key.key) (sym c.self.view_is)
    ∙ sym c.in-Some.ensures.value in
    let found = sym c.if-not-branch.false ∙ c.in_ok-are_listed.ensures
    ∙ ap (λ (y : HeldZone). list_all (λ x. list_any (asks_for y.class c.args.entry.now x) c.args.entries.now)
    c.as_slice-records.result.now) c.self.view_is in
    both_known z.sets z.class c.args.entries.now r c.in_ok-key.key _ c.in_ok-key.ensures
    (there_is z.sets z.class c.args.entries.now r c.in_ok-key.key c.in-Some.set.now c.as_slice-records.result.now _
    c.in_ok-key.ensures there c.as_slice-records.ensures c.in_ok-is_met.ensures)
    (complete_is z.sets z.class c.args.entries.now r c.in_ok-key.key c.in-Some.set.now c.as_slice-records.result.now _
    c.in_ok-key.ensures there c.as_slice-records.ensures found)

pub returns-clause-known : goal.returns-clause-known
returns-clause-known c =
    let z = c.args.self.now in
    let r = c.args.entry.now in
    let there = ap (λ (y : HeldZone). get key_cmp y.sets c.in_ok-key.key) (sym c.self.view_is)
    ∙ sym c.in-Some.ensures.value in
    let found = sym c.if-not-branch.false ∙ c.in_ok-are_listed.ensures
    ∙ ap (λ (y : HeldZone). list_all (λ x. list_any (asks_for y.class c.args.entry.now x) c.args.entries.now)
    c.as_slice-records.result.now) c.self.view_is in
    known_more z.sets z.class c.args.entries.now c.args.held.now c.insert.new.self c.in_ok-key.key _
    (complete_is z.sets z.class c.args.entries.now r c.in_ok-key.key c.in-Some.set.now c.as_slice-records.result.now _
    c.in_ok-key.ensures there c.as_slice-records.ensures found)
    c.requires c.in_ok-insert.ensures.updates

pub returns-in_default-clause-known : goal.returns-in_default-clause-known
returns-in_default-clause-known c = c.requires

pub returns-then-not-branch-clause-known : goal.returns-then-not-branch-clause-known
returns-then-not-branch-clause-known c = c.requires

pub returns-in_default-clause-met : goal.returns-in_default-clause-met
returns-in_default-clause-met c =
    let z = c.args.self.now in
    none_there z.sets z.class c.args.entries.now c.args.entry.now c.in_ok-key.key c.in_ok-key.ensures
    (ap (λ (y : HeldZone). get key_cmp y.sets c.in_ok-key.key) (sym c.self.view_is) ∙ sym c.in_default.ensures.value)

pub returns-in-Some-get-clause-met : goal.returns-in-Some-get-clause-met
returns-in-Some-get-clause-met c =
    let z = c.args.self.now in
    let r = c.args.entry.now in
    let there = ap (λ (y : HeldZone). get key_cmp y.sets c.in_ok-key.key) (sym c.self.view_is)
    ∙ sym c.in-Some.ensures.value in
    let held : get key_cmp c.args.held.now c.in_ok-key.key ≡ Some c.in-Some-get.places.now =
    sym c.in-Some-get.ensures.value in
    IfOk-weaker c.has_data.result (λ b. b ≡ list_any (has_data_of r) c.as_slice-records.result.now)
    (λ b. b ≡ (there_under z.sets r (record_key r) && complete_at z.sets z.class c.args.entries.now (record_key r)))
    (λ b found. both_known z.sets z.class c.args.entries.now r c.in_ok-key.key b c.in_ok-key.ensures
    (there_is z.sets z.class c.args.entries.now r c.in_ok-key.key c.in-Some.set.now c.as_slice-records.result.now b
    c.in_ok-key.ensures there c.as_slice-records.ensures found)
    (c.requires c.in_ok-key.key (ap is_some held))) c.has_data.ensures

pub returns-in-Some-get-clause-known : goal.returns-in-Some-get-clause-known
returns-in-Some-get-clause-known c =
    let z = c.args.self.now in
    IfOk-weaker c.has_data.result (λ b. b ≡ list_any (has_data_of c.args.entry.now) c.as_slice-records.result.now)
    (λ b. AreComplete z.sets z.class c.args.entries.now c.args.held.now) (λ b found. c.requires) c.has_data.ensures
