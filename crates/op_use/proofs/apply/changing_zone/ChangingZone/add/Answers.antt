use Rattle.base.specs.RrKey.{key_cmp, key_of}
use Rattle.base.specs.declared.record_type.RecordType.TheVariants as types
use Rattle.base.specs.declared.rr_key.RrKey.{RrKey}
use Rattle.op_use.proofs.ChangingSteps.{alone, moves_so, stays_so}
use Rattle.op_use.proofs.MapZones.{set_at, types_at}
use Rattle.op_use.proofs.TypeSteps.{cname_is}
use Rattle.op_use.proofs.UpdateSteps.{adds}
use Rattle.op_use.proofs.apply.changing_zone.ChangingZone.add.Goals as goal
use Rattle.op_use.specs.AppliedRecords.{with_record}
use Rattle.op_use.specs.HeldZone.{HeldZone}
use Rattle.op_use.specs.MapUpdates.{HoldsAt}
use Rattle.op_use.specs.Server.{is_cname}
use Rattle.op_use.specs.Zone.{is_owned}
use Rattle.rr.specs.Record.{record_key}
use Rattle.std.proofs.Common.{[], ap, is_some, not, subst, sym, ◌&&◌, ◌∙◌}
use Rattle.std.proofs.lemmas.Bool.{cond-false, cond-true}
use Rattle.std.proofs.lemmas.Result.{on_ok_weaker}
use Rattle.std.specs.BTreeMap.{get, keys}
use Rattle.std.specs.List.{list_any}

pub returns-then-branch : goal.returns-then-branch
returns-then-branch c =
    let z = c.args.self.now in
    let r = c.args.entry.now in
    stays_so z r (with_record r) _ (adds z.origin z.class z.sets r c.requires) (ap not (cond-true _ _ _
    (ap is_cname (sym c.record_type.ensures) ∙ cname_is c.record_type.result ∙ sym c.eq.ensures ∙ c.if-eq.true)
    ∙ types_at z.origin z.class z.sets c.args.entry.now.name (λ t. not (is_cname t))
    ∙ ap (λ (y : HeldZone). list_any (λ (k : RrKey). is_owned c.args.entry.now.name k && not (is_cname k.record_type))
    (keys y.sets)) (sym c.self.view_is) ∙ sym c.in_ok-has_type.ensures ∙ c.if-branch.true))

pub returns-then-eq : goal.returns-then-eq
returns-then-eq c =
    let z = c.args.self.now in
    let r = c.args.entry.now in
    let alias = ap is_cname (sym c.record_type.ensures) ∙ cname_is c.record_type.result ∙ sym c.eq.ensures
    ∙ c.if-eq.true in
    let out = subst (λ (k : RrKey). HoldsAt k [] z c.remove.new.self) c.in_ok-key.ensures c.remove.ensures in
    on_ok_weaker c.add_record.result (λ held.
    moves_so z c.add_record.new.self r (with_record r) _ (adds z.origin z.class z.sets r c.requires)
    (ap not (cond-true _ _ _ alias ∙ types_at z.origin z.class z.sets c.args.entry.now.name (λ t. not (is_cname t))
    ∙ ap (λ (y : HeldZone). list_any (λ (k : RrKey). is_owned c.args.entry.now.name k && not (is_cname k.record_type))
    (keys y.sets)) (sym c.self.view_is) ∙ sym c.in_ok-has_type.ensures ∙ c.if-branch.false))
    (subst (λ xs. HoldsAt (record_key c.args.entry.now) xs z c.add_record.new.self) (sym (cond-true _ _ _ alias))
    (alone (record_key r) r z c.remove.new.self c.add_record.new.self out held))) c.add_record.ensures

pub returns-then-contains_key : goal.returns-then-contains_key
returns-then-contains_key c =
    let z = c.args.self.now in
    let r = c.args.entry.now in
    let alias = key_of c.args.entry.now.name types.CNAME in
    stays_so z r (with_record r) _ (adds z.origin z.class z.sets r c.requires) (ap not (cond-false _ _ _
    (ap is_cname (sym c.record_type.ensures) ∙ cname_is c.record_type.result ∙ sym c.eq.ensures ∙ c.if-eq.false)
    ∙ set_at z.origin z.class z.sets alias ∙ ap (λ (y : HeldZone). is_some (get key_cmp y.sets alias))
    (sym c.self-2.view_is) ∙ ap (λ k. is_some (get key_cmp c.self-2.inside.sets k)) (sym c.in_ok-cname.ensures)
    ∙ sym c.contains_key.ensures ∙ c.if-contains_key.true))

pub returns : goal.returns
returns c =
    let z = c.args.self.now in
    let r = c.args.entry.now in
    let alias = key_of c.args.entry.now.name types.CNAME in
    let other = ap is_cname (sym c.record_type.ensures) ∙ cname_is c.record_type.result ∙ sym c.eq.ensures
    ∙ c.if-eq.false in
    on_ok_weaker c.add_record-2.result (λ held.
    moves_so z c.add_record-2.new.self r (with_record r) _ (adds z.origin z.class z.sets r c.requires)
    (ap not (cond-false _ _ _ other ∙ set_at z.origin z.class z.sets alias
    ∙ ap (λ (y : HeldZone). is_some (get key_cmp y.sets alias)) (sym c.self-2.view_is)
    ∙ ap (λ k. is_some (get key_cmp c.self-2.inside.sets k)) (sym c.in_ok-cname.ensures) ∙ sym c.contains_key.ensures
    ∙ c.if-contains_key.false))
    (subst (λ xs. HoldsAt (record_key c.args.entry.now) xs z c.add_record-2.new.self)
    (sym (cond-false _ _ _ other)) held)) c.add_record-2.ensures
