use Rattle.std.proofs.Common.{rules, ◌≡◌, ◌∷◌, ap, sym, ◌∙◌, subst}
use Rattle.std.proofs.lemmas.List.Elements.{All-tail}
use Rattle.base.specs.declared.rr_key.RrKey.{RrKey}
use Rattle.base_data.specs.declared.rdata.RData.{RData}
use Rattle.rr.specs.declared.record.Record.{Record}
use Rattle.rr.specs.Record.{record_key}
use Rattle.txt.specs.Gathered.{HaveOwnKeys, IsAscending, gathered, with_all}
use Rattle.txt.specs.ZoneSets.{AreKeyed, ZoneSets}
use Rattle.txt.proofs.Gathering.{FirstFollows, ascends_after, first_follows, none_follows, none_in_order}
use Rattle.txt.proofs.SetsInOrder.{AreInOrder}
use Rattle.txt.proofs.zone.sets.gather.Goals as goal

pub loop-keyed-init : goal.loop-keyed-init
loop-keyed-init c =
    let all : c.into_iter-keyed-iterator.result.rest.items ≡ c.args.entries.items = search rules in
    record {
      sets = ap (λ (sets : ZoneSets). with_all sets c.into_iter-keyed-iterator.result.rest.items) c.new-run.ensures
          ∙ ap gathered all;
      kept = subst AreKeyed (sym c.new-run.ensures) tt;
      ordered = subst AreInOrder (sym c.new-run.ensures) none_in_order;
      keyed = subst HaveOwnKeys (sym all) c.requires.keyed;
      ascending = subst IsAscending (sym all) c.requires.ascending;
      follows = subst (λ (run : ZoneSets). FirstFollows run c.into_iter-keyed-iterator.result.rest.items)
          (sym c.new-run.ensures) (none_follows c.into_iter-keyed-iterator.result.rest.items);
    }

pub add_last-requires-clause-after : goal.add_last-requires-clause-after
add_last-requires-clause-after c =
    let all : c.loop-keyed.keyed-iterator.rest.items ≡ c.into_parts-key.result ∷ c.next.new.self.rest.items =
    search rules in
    subst (FirstFollows c.loop-keyed.run) all c.loop-keyed.invariant.follows

pub loop-keyed-preserved : goal.loop-keyed-preserved
loop-keyed-preserved c =
    let rest = c.next.new.self.rest.items in
    let e : RrKey × Record RData = c.into_parts-key.result in
    let all : c.loop-keyed.keyed-iterator.rest.items ≡ e ∷ rest = search rules in
    let up : IsAscending (e ∷ rest) = subst IsAscending all c.loop-keyed.invariant.ascending in
    record {
      sets = ap (λ (sets : ZoneSets). with_all sets rest) c.in_ok-add_last.ensures.sets
          ∙ ap (with_all c.loop-keyed.run) (sym all) ∙ c.loop-keyed.invariant.sets;
      kept = c.in_ok-add_last.ensures.kept;
      ordered = c.in_ok-add_last.ensures.ordered;
      keyed = All-tail (λ (e : RrKey × Record RData). e.0 ≡ record_key e.1) e rest
          (subst HaveOwnKeys all c.loop-keyed.invariant.keyed);
      ascending = ascends_after e rest up;
      follows = first_follows c.add_last.new.run e rest up c.in_ok-add_last.ensures.last;
    }
