use Rattle.std.proofs.Common.{◌≡◌, ◌∙◌, ap}
use Rattle.std.proofs.lemmas.List.Sorted.{All-permutation, answers_always, ranks_by}
use Rattle.std.specs.Ordering.{is_lt}
use Rattle.base.proofs.names.KeyLemmas.{key_cmp-total}
use Rattle.base.specs.declared.rr_key.RrKey.{RrKey}
use Rattle.base_data.specs.declared.rdata.RData.{RData}
use Rattle.rr.specs.declared.record.Record.{Record}
use Rattle.rr.specs.Record.{record_key}
use Rattle.txt.proofs.Gathering.{ascending, gathered_stable, is_below}
use Rattle.txt.proofs.zone.sets.ZoneSets.into_run.Goals as goal
use Rattle.std.proofs.lemmas.Result.{IfOk-weaker}

pub gather-requires : goal.gather-requires
gather-requires c =
    let ranks = ranks_by key_cmp-total (λ (e : RrKey × Record RData). e.0) in
    record {
      keyed = All-permutation (λ (e : RrKey × Record RData). e.0 ≡ record_key e.1) c.self.inside.entries.items
          c.sort_by.new.self.items c.in_ok-sort_by.ensures.permutation
          c.self.invariant.0;
      ascending = ascending c.sort_by.new.self.items
          (c.in_ok-sort_by.ensures.sorted is_below ranks (answers_always _ _ _ (λ f a r f' k. ap is_lt k.met)));
    }

pub returns-clause-sets : goal.returns-clause-sets
returns-clause-sets c =
    let ranks = ranks_by key_cmp-total (λ (e : RrKey × Record RData). e.0) in
    let stable = c.in_ok-sort_by.ensures.stable is_below ranks (answers_always _ _ _ (λ f a r f' k. ap is_lt k.met)) in
    IfOk-weaker c.gather.result _ _ (λ run is. is
    ∙ gathered_stable c.self.inside.entries.items c.sort_by.new.self.items stable
    ∙ c.self.view_is) c.gather.ensures.sets
