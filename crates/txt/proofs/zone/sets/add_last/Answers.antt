use Rattle.std.proofs.Common.{rules, ◌≡◌, [], ◌∷◌, ◌++◌, ◌∙◌, ap, subst}
use Rattle.std.specs.Prelude.{OnOk}
use Rattle.base.specs.declared.rr_key.RrKey.{RrKey}
use Rattle.rr.specs.RecordSet.{set_of}
use Rattle.rr.specs.SetChanges.{insert}
use Rattle.txt.specs.ZoneSets.{AreKeyed, IsKeyed, ZoneSets}
use Rattle.txt.proofs.Gathering.{IsGrown, follows, joins}
use Rattle.txt.proofs.KeptSets.{enters}
use Rattle.txt.proofs.SetsInOrder.{kept_last}
use Rattle.txt.proofs.zone.sets.add_last.Goals as goal
use Rattle.txt.proofs.zone.sets.add_last.Goals.{in-Some+in_ok-map_err-in-Some, in-None+in_ok-set-in-None}
use Rattle.std.proofs.lemmas.Result.{on_ok_weaker}

pub insert-requires : goal.insert-requires
insert-requires c =
    enters c.in-Some.set c.args.entry (subst (λ (k : RrKey). IsKeyed k c.in-Some.set) c.requires.key
    (kept_last [] c.take_last.new.run (c.args.key, c.in-Some.set)
    (subst AreKeyed c.in-Some.ensures.some c.requires.kept)))

grown : (c : goal.After-push) → OnOk c.push.result (IsGrown c.args.run.now c.args.key c.args.entry c.push.new.self)
grown c = on_ok_weaker c.push.result (λ made. elim c.match-take_last.branch [
  | in-Some+in_ok-map_err-in-Some w ↦
      let changed : c.match-take_last.set ≡ (insert w.in-Some.set c.args.entry 0).1 = search rules in
      joins c.args.run.now c.take_last.new.run c.args.key w.in-Some.set c.match-take_last.set c.args.entry
      w.in-Some.ensures.some c.requires.key changed
      c.requires.kept c.requires.ordered c.push.new.self made
  | in-None+in_ok-set-in-None w ↦
      let is : c.match-take_last.set ≡ set_of c.args.entry = search rules in
      follows c.args.run.now c.args.key c.match-take_last.set c.args.entry c.requires.key is w.in-None.ensures.none.1
      c.requires.kept c.requires.ordered c.push.new.self
      (made ∙ ap (λ (zs : ZoneSets). zs ++ (c.args.key, c.match-take_last.set) ∷ []) w.in-None.ensures.none.0)
]) c.push.ensures.items

pub returns-clause-sets : goal.returns-clause-sets
returns-clause-sets c = on_ok_weaker c.push.result (λ made. made.sets) (grown c)

pub returns-clause-kept : goal.returns-clause-kept
returns-clause-kept c = on_ok_weaker c.push.result (λ made. made.kept) (grown c)

pub returns-clause-ordered : goal.returns-clause-ordered
returns-clause-ordered c = on_ok_weaker c.push.result (λ made. made.ordered) (grown c)

pub returns-clause-last : goal.returns-clause-last
returns-clause-last c = on_ok_weaker c.push.result (λ made. made.last) (grown c)
