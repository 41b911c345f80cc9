use Rattle.rr.proofs.rr_set.indexed_records.IndexedRecords.take_data.Goals as goal

-- without an index nothing is asked
pub invariant_of-self : goal.invariant_of-self
invariant_of-self c = tt
