use Rattle.std.proofs.Common.{refl, subst, sym}
use Rattle.base_data.specs.declared.rdata.RData.{RData}
use Rattle.rr.specs.DataIndex.{IsIndexOf}
use Rattle.rr.specs.declared.record.Record.{Record}
use Rattle.rr.proofs.IndexLemmas.{if_current, index_mapped}
use Rattle.rr.proofs.rr_set.indexed_records.IndexedRecords.set_dns_class.Goals as goal

pub invariant_of-self : goal.invariant_of-self
invariant_of-self c = if_current c.self.inside.index _ _
    (λ find h. subst (IsIndexOf find) (sym c.set_classes.ensures)
    (index_mapped find (λ (r : Record RData). record r { dns_class = c.args.dns_class }) (λ x. refl)
    c.self.inside.records.items h)) c.self.invariant
