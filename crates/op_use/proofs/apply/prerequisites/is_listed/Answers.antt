use Rattle.op_use.proofs.ListedSteps.{asked_by, passed_by, set_false, third_false}
use Rattle.op_use.proofs.apply.prerequisites.is_listed.Goals as goal
use Rattle.op_use.proofs.apply.prerequisites.is_listed.Goals.{else-eq-via-else-eq, else-eq-via-then-eq+else-is_of_set-2}
use Rattle.op_use.specs.MapFaults.{asks_for, is_by_value}
use Rattle.op_use.specs.Server.{is_same_key}
use Rattle.std.proofs.Common.{ap, drop, false, sym, ◌&&◌, ◌+◌, ◌||◌, ◌≡◌, ◌∙◌}
use Rattle.std.proofs.lemmas.Bool.{and_parts}
use Rattle.std.proofs.lemmas.List.{at_drop_more}
use Rattle.std.specs.List.{list_any}

pub returns-then-is_of_set : goal.returns-then-is_of_set
returns-then-is_of_set c =
    let found = rw c.in-Some.is at c.in_ok-listed.ensures in
    let of_set = and_parts (is_by_value c.args.class c.in-Some.listed.now)
    (is_same_key c.args.entry.now c.in-Some.listed.now) (sym c.is_of_set.ensures ∙ c.if-is_of_set.true) in
    sym (asked_by c.args.class c.args.entry.now c.args.known.now c.in-Some.listed.now c.args.entries.now found.0 found.1
    of_set.0 of_set.1)

pub loop-listed-preserved : goal.loop-listed-preserved
loop-listed-preserved c =
    let fails : asks_for c.args.class c.args.entry.now c.args.known.now c.listed-item.result ≡ false =
    elim c.else-eq.branch [
      | else-eq-via-then-eq+else-is_of_set-2 w ↦
          set_false (is_by_value c.args.class c.listed-item.result)
          (is_same_key c.args.entry.now c.listed-item.result) _
          (sym w.is_of_set-then-eq.ensures ∙ w.if-is_of_set-2.false)
      | else-eq-via-else-eq w ↦
          third_false (is_by_value c.args.class c.listed-item.result)
          (is_same_key c.args.entry.now c.listed-item.result) _ (sym c.eq.ensures ∙ w.if-eq.false)
    ] in
    passed_by (asks_for c.args.class c.args.entry.now c.args.known.now) c.args.entries.now c.loop-listed.listed-index
    c.listed-item.result _ c.loop-listed-test.true c.listed-item.is fails
    c.loop-listed.invariant

pub returns-then-is_of_set-2 : goal.returns-then-is_of_set-2
returns-then-is_of_set-2 c =
    let asked = asks_for c.args.class c.args.entry.now c.args.known.now in
    let es = c.args.entries.now in
    let i = c.loop-listed.listed-index in
    let r = c.listed-item.result in
    let of_set = and_parts (is_by_value c.args.class r) (is_same_key c.args.entry.now r)
    (sym c.is_of_set-then-eq.ensures ∙ c.if-is_of_set-2.true) in
    sym (sym c.loop-listed.invariant ∙ at_drop_more (list_any asked) es i r c.loop-listed-test.true
    ∙ ap (λ x. asked x || list_any asked (drop (i + 1) es)) (sym c.listed-item.is)
    ∙ (λ j. (of_set.0 j && (of_set.1 j && (sym c.eq.ensures ∙ c.if-eq.true) j)) || list_any asked (drop (i + 1) es)))
