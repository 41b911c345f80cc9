use Rattle.std.proofs.Common.{rules, ◌≡◌, [], ◌∷◌, ◌++◌, refl, sym, subst}
use Rattle.std.proofs.lemmas.List.Elements.{All-push}
use Rattle.base.specs.declared.rr_key.RrKey.{RrKey}
use Rattle.base_data.specs.declared.rdata.RData.{RData}
use Rattle.rr.specs.Record.{record_key}
use Rattle.rr.specs.declared.record.Record.{Record}
use Rattle.txt.specs.Gathered.{HaveOwnKeys, KnowsSoas}
use Rattle.txt.proofs.zone.sets.ZoneSets.add.Goals as goal

pub invariant_of-self-2 : goal.invariant_of-self-2
invariant_of-self-2 c =
    let e : RrKey × Record RData = (record_key c.args.entry, c.args.entry) in
    let pushed : c.push_reserved.new.self.items
    ≡ c.self.inside.entries.items ++ (record_key c.args.entry, c.args.entry) ∷ [] = search rules in
    let same : c.deref.result.now ≡ c.args.entry = search rules in (
      subst HaveOwnKeys (sym pushed) (All-push (λ (e : RrKey × Record RData). e.0 ≡ record_key e.1)
          c.self.inside.entries.items e c.self.invariant.0 refl),
      subst (KnowsSoas c.make_room.new.soas.entries) (sym pushed)
          (subst (λ (r : Record RData). KnowsSoas c.make_room.new.soas.entries
          (c.self.inside.entries.items ++ (record_key r, r) ∷ [])) same c.in_ok-key.ensures.soas),
    )
