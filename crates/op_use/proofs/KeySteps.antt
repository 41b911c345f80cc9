-- When the keys of sets are the same.
use Rattle.base.specs.Keys.{keys_match}
use Rattle.base.specs.names.Labels.{NameValue}
use Rattle.base.specs.names.NameOrder.{folded, lower_cmp, lowered, same_name}
use Rattle.base.specs.names.NameOrderLaws.{same_by-tie}
use Rattle.base.specs.RecordType.{same_type, type_cmp, type_number, type_rank}
use Rattle.base.specs.RrKey.{key_cmp, key_of}
use Rattle.base.specs.declared.record_type.RecordType.{RecordType}
use Rattle.std.proofs.Common.{◌∙◌}
use Rattle.std.proofs.Math.Bool.{and_comm}
use Rattle.std.specs.Cmp.{tied_then}
use Rattle.std.specs.Ordering.{eq_by_cmp}
use Rattle.std.specs.Prelude.{◌&&◌, ◌≡◌}

-- keys are the same where types and names are
pub same_key_is : (a b : NameValue) (s t : RecordType)
    → (same_type s t && same_name a b) ≡ eq_by_cmp key_cmp (key_of a s) (key_of b t)
same_key_is a b s t = and_comm (same_type s t) (same_name a b)
    ∙ (λ i. same_by-tie folded a b i && keys_match type_number type_rank s t i)
    ∙ tied_then (lower_cmp (lowered a) (lowered b)) (type_cmp s t)
