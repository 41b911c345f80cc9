use Rattle.base_data.specs.declared.rdata.RData.{RData}
use Rattle.rr.proofs.PlacedLemmas.{Places}
use Rattle.rr.proofs.SetSteps.{len_step}
use Rattle.rr.proofs.rr_set.placed_records.PlacedRecords.into_vec.Goals as goal
use Rattle.rr.specs.PlacedRecords.{present}
use Rattle.rr.specs.declared.record.Record.{Record}
use Rattle.std.proofs.Common.{List, [], ap, append_assoc, arith, length, sym, ℕ, ◌++◌, ◌∙◌, ◌∷◌, ◌≡◌}
use Rattle.std.proofs.lemmas.List.{append-nil}
use Rattle.std.specs.Vec.Iter.{into_iter_items}

-- no place is left
no_next : (xs zs : List (Record RData)) (ps : Places) (m : ℕ) → xs ++ present ps ≡ zs → m ≡ 0 → m ≡ length ps → xs ≡ zs
no_next xs zs [] m h none len = sym (append-nil xs) ∙ h
no_next xs zs (p ∷ ps) m h none len = absurd (omega arith)

pub loop-place-init : goal.loop-place-init
loop-place-init c =
    let gives = c.into_iter-place-iterator.ensures.into_iter_gives in
    let len : c.self.inside.places.len ≡ length c.self.inside.places.items = omega (arith, c.self.inside.places.ok) in (
      ap (λ xs. xs ++ present (into_iter_items c.into_iter-place-iterator.result)) c.in_ok-records.ensures.items
          ∙ ap present gives.0 ∙ c.self.view_is,
      gives.1 ∙ len ∙ ap length (sym gives.0),
    )

pub loop-place-preserved-in-Continue-branch-2 : goal.loop-place-preserved-in-Continue-branch-2
loop-place-preserved-in-Continue-branch-2 c =
    let rest = into_iter_items c.next.new.self in
    let first = c.in-Some.ensures.steps in
    let loop = c.loop-place.invariant in (
      ap (λ xs. xs ++ present rest) c.in_ok-push.ensures.items ∙ append_assoc c.loop-place.records.items _ _
          ∙ ap (λ (ps : Places). c.loop-place.records.items ++ present ps)
          (sym (first.0 ∙ ap (λ p. p ∷ rest) c.in-Some-place.is)) ∙ loop.0,
      len_step _ _ _ _ c.in-Some.place first.0 first.1 loop.1,
    )

pub loop-place-preserved : goal.loop-place-preserved
loop-place-preserved c =
    let first = c.in-Some.ensures.steps in
    let loop = c.loop-place.invariant in (
      ap (λ (ps : Places). c.loop-place.records.items ++ present ps)
          (sym (first.0 ∙ ap (λ p. p ∷ into_iter_items c.next.new.self) c.in_default.is)) ∙ loop.0,
      len_step _ _ _ _ c.in-Some.place first.0 first.1 loop.1,
    )

pub returns : goal.returns
returns c = no_next c.loop-place.records.items _ _ _ c.loop-place.invariant.0 c.in-None.ensures.steps.0
    c.loop-place.invariant.1
