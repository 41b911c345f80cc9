use Rattle.authority.proofs.FillingLemmas.{fills_none, sets_add, sets_are_full, sets_skip}
use Rattle.authority.proofs.SetsFromLemmas.{end_begins, end_goes_on}
use Rattle.authority.proofs.filling.Answers.add_sets.Goals as goal
use Rattle.authority.specs.Filling.{Fills, FillsUpTo}
use Rattle.authority.specs.Transfer.{given_from, records_from}
use Rattle.base.specs.names.Labels.{NameValue}
use Rattle.base.specs.RrKey.{key_cmp}
use Rattle.base.specs.declared.record_type.RecordType.{RecordType}
use Rattle.base.specs.declared.rr_key.RrKey.{RrKey}
use Rattle.rr.specs.RecordSet.{SetValue}
use Rattle.std.proofs.Common.{List, Option, ap, refl, subst, sym, ℕ, ◌∙◌, ◌≡◌}
use Rattle.std.specs.BTreeMap.Range.{entries_between}
use Rattle.std.specs.declared.ops.Bound.TheVariants.{Included, Unbounded}

same_key : (a b : RrKey) → (b.name ≡ a.name) × (b.record_type ≡ a.record_type) → b ≡ a
same_key a b h =
    ap (λ (n : NameValue). record b { name = n }) h.0 ∙ ap (λ (t : RecordType). record a { record_type = t }) h.1

pub loop-key-init : goal.loop-key-init
loop-key-init c =
    let zone = c.args.zone.now in
    let origin = zone.origin.now in
    let all = zone.sets.now.entries in
    let it = c.into_iter-key-iterator.result in
    let from_here : it ≡ entries_between key_cmp (Included c.args.key.now) Unbounded all
    = c.into_iter-key-iterator.ensures.into_iter_gives ∙ c.range-key-items.ensures.between tt in
    let whole = given_from origin zone.class c.args.from
    (entries_between key_cmp (Included c.args.key.now) Unbounded all) in (
      end_begins c.args.key.now it all c.range-key-items.ensures.ordered from_here,
      subst (λ (es : List (RrKey × SetValue)). Fills whole (given_from origin zone.class c.args.from es) c.args.self.now
          c.args.self.now) (sym from_here) (fills_none whole c.args.self.now c.args.self.now refl refl),
      tt,
      tt,
    )

pub loop-key-preserved-then-not-is_between : goal.loop-key-preserved-then-not-is_between
loop-key-preserved-then-not-is_between c =
    let zone = c.args.zone.now in
    let origin = zone.origin.now in
    let all = zone.sets.now.entries in
    let e : RrKey × SetValue = (c.in-Some.key.now, c.in-Some.set.now) in (
      end_goes_on all c.loop-key.key-iterator c.next.new.self e c.loop-key.invariant.0 c.in-Some.ensures.steps,
      sets_skip origin zone.class all c.loop-key.key-iterator c.next.new.self e c.loop-key.invariant.0
          c.in-Some.ensures.steps c.loop-key.from (given_from origin zone.class c.args.from
          (entries_between key_cmp (Included c.args.key.now) Unbounded all)) c.args.self.now c.loop-key.self
          c.loop-key.invariant.1 (sym c.is_between.ensures ∙ c.if-not-is_between.true),
      tt,
      tt,
    )

pub returns-in-Some-2 : goal.returns-in-Some-2
returns-in-Some-2 c =
    let zone = c.args.zone.now in
    let origin = zone.origin.now in
    let all = zone.sets.now.entries in
    let s = c.in-Some.set.now in
    let e : RrKey × SetValue = (c.in-Some.key.now, s) in
    sets_are_full origin zone.class all c.loop-key.key-iterator c.next.new.self e c.loop-key.invariant.0
    c.in-Some.ensures.steps c.loop-key.from (given_from origin zone.class c.args.from
    (entries_between key_cmp (Included c.args.key.now) Unbounded all)) c.args.self.now c.loop-key.self
    c.loop-key.invariant.1 (sym c.is_between.ensures ∙ c.if-not-is_between.false) c.add_set.new.self c.in-Some-2.number
    c.in_ok-clone.field-0 (same_key _ _ c.in_ok-clone.ensures.cases) c.range-key-items.ensures.ordered
    (subst (λ (o : Option ℕ). FillsUpTo (records_from zone.class c.loop-key.from s)
    (λ (n : ℕ). records_from zone.class n s) c.loop-key.self o c.add_set.new.self) c.in-Some-2.is
    c.in_ok-number.ensures)

pub loop-key-preserved : goal.loop-key-preserved
loop-key-preserved c =
    let zone = c.args.zone.now in
    let origin = zone.origin.now in
    let all = zone.sets.now.entries in
    let s = c.in-Some.set.now in
    let e : RrKey × SetValue = (c.in-Some.key.now, s) in (
      end_goes_on all c.loop-key.key-iterator c.next.new.self e c.loop-key.invariant.0 c.in-Some.ensures.steps,
      sets_add origin zone.class all c.loop-key.key-iterator c.next.new.self e c.loop-key.invariant.0
          c.in-Some.ensures.steps c.loop-key.from (given_from origin zone.class c.args.from
          (entries_between key_cmp (Included c.args.key.now) Unbounded all)) c.args.self.now c.loop-key.self
          c.loop-key.invariant.1 (sym c.is_between.ensures ∙ c.if-not-is_between.false) c.add_set.new.self
          (subst (λ (o : Option ℕ). FillsUpTo (records_from zone.class c.loop-key.from s)
          (λ (n : ℕ). records_from zone.class n s) c.loop-key.self o c.add_set.new.self) c.in_default.is
          c.in_ok-number.ensures),
      tt,
      tt,
    )
