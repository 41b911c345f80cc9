use Rattle.rr.proofs.PlacedLemmas.{Places, count_here, count_push, joined_here, joined_last, placed_here, placed_last}
use Rattle.rr.proofs.PlacedLemmas.{present_fits}
use Rattle.rr.proofs.SetSteps.{same_clone}
use Rattle.rr.proofs.rr_set.placed_records.PlacedRecords.join.Goals as goal
use Rattle.base_data.specs.declared.rdata.RData.{RData}
use Rattle.rr.specs.PlacedRecords.{IsPlaced, present}
use Rattle.rr.specs.SetChanges.{joined}
use Rattle.rr.specs.declared.record.Record.{Record}
use Rattle.std.proofs.Common.{[], ap, arith, length, rules, set, subst, sym, ◌++◌, ◌+◌, ◌∙◌, ◌∷◌, ◌≡◌, ℕ}
use Rattle.std.proofs.lemmas.Option.{slice_get_within}
use Rattle.std.specs.Prelude.{Some}

pub invariant_of-self-in-Some : goal.invariant_of-self-in-Some
invariant_of-self-in-Some c =
    let ps = c.self.inside.places.items in
    let put = c.put_at.ensures ∙ ap (λ (r : Record RData). set ps c.in-Some.place (Some r))
    (same_clone _ _ c.in_ok-clone.ensures.cases) in (
      subst (IsPlaced c.self.inside.index) (sym put)
          (placed_here c.self.inside.index ps c.in-Some.place c.args.entry.now c.self.invariant.0 c.in-Some.ensures),
      c.self.invariant.1 ∙ sym (ap (λ (qs : Places). length (present qs)) put
          ∙ count_here ps c.in-Some.place c.args.entry.now c.in-Some.ensures),
    )

pub returns-in-Some-clause-ok : goal.returns-in-Some-clause-ok
returns-in-Some-clause-ok c =
    let ps = c.self.inside.places.items in
    let put = c.put_at.ensures ∙ ap (λ (r : Record RData). set ps c.in-Some.place (Some r))
    (same_clone _ _ c.in_ok-clone.ensures.cases) in
    ap present put ∙ joined_here ps c.in-Some.place c.args.entry.now c.in-Some.ensures c.self.invariant.0.distinct
    ∙ ap (joined c.args.entry.now) c.self.view_is

pub overflow_add-self : goal.overflow_add-self
overflow_add-self c = omega (arith, c.self.invariant.1, present_fits c.self.inside.places.items)

pub invariant_of-self-2 : goal.invariant_of-self-2
invariant_of-self-2 c =
    let ps = c.self.inside.places.items in
    let r = c.args.entry.now in
    let index = c.take_in.new.index in
    let pushed : c.push_reserved.new.self.items ≡ ps ++ Some c.in_ok-copy.copy ∷ [] = search rules in
    let is = pushed ∙ ap (λ (x : Record RData). ps ++ Some x ∷ []) (same_clone _ _ c.in_ok-copy.ensures.cases) in
    let len : c.len.result ≡ length ps = search rules in
    let indexed = c.in_ok-take_in.ensures.ok ps r c.self.invariant.0.indexed (sym len) (sym c.in_ok-key.ensures) in (
      subst (IsPlaced index) (sym is) (placed_last index ps r c.self.invariant.0.distinct c.in_default.ensures indexed),
      ap (λ (n : ℕ). n + 1) c.self.invariant.1 ∙ sym
          (ap (λ (qs : Places). length (present qs)) is ∙ count_push ps c.args.entry.now),
    )

pub returns-clause-ok : goal.returns-clause-ok
returns-clause-ok c =
    let ps = c.self.inside.places.items in
    let pushed : c.push_reserved.new.self.items ≡ ps ++ Some c.in_ok-copy.copy ∷ [] = search rules in
    let is = pushed ∙ ap (λ (r : Record RData). ps ++ Some r ∷ []) (same_clone _ _ c.in_ok-copy.ensures.cases) in
    ap present is ∙ joined_last c.args.entry.now ps c.in_default.ensures ∙ ap (joined c.args.entry.now) c.self.view_is

pub put_at-requires : goal.put_at-requires
put_at-requires c = slice_get_within c.self.inside.places.items c.in-Some.place (Some c.in-Some.ensures.known)
    c.in-Some.ensures.here

pub place_of-requires-clause-placed : goal.place_of-requires-clause-placed
place_of-requires-clause-placed c = c.self.invariant.0

pub invariant_of-self : goal.invariant_of-self
invariant_of-self c = c.self.invariant
