-- Data that was read, and where it ends.
use Rattle.std.proofs.Common.{◌≡◌, ℕ, ◌+◌, List}
use Rattle.std.proofs.lemmas.Bool.{cond-false, ne_eqb}
use Rattle.std.specs.Prelude.{◌==◌}
use Rattle.base.specs.declared.record_type.RecordType.{RecordType}
use Rattle.base_data.specs.Kinds.{kind_at}
use Rattle.base_data.specs.RData.{filling, rdata_at}

-- data of some bytes is what its kind reads, if that fills them
pub filling_of : (type : RecordType) (len : ℕ) (B : List ℕ) (i : ℕ) → (len ≡ 0 → ⊥)
    → rdata_at type len B i ≡ filling type (i + len) (kind_at type len B i)
unfolding rdata_at
filling_of type len B i some = cond-false (len == 0) _ _ (ne_eqb len 0 some)
