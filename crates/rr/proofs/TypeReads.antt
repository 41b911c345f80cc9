-- Types that are those of their numbers.
use Rattle.std.proofs.Common.{◌≡◌, Bool, false, ap, sym, ◌∙◌, ℕ}
use Rattle.std.proofs.lemmas.Bool.{not-false}
use Rattle.std.specs.Prelude.{not}
use Rattle.base.specs.RecordType.{same_type, type_number, type_of}
use Rattle.base.specs.declared.record_type.RecordType.{RecordType}
use Rattle.base_data.proofs.SameData.{types_Decide}

-- a type that is that of its number, as it is asked
pub reads_type : (t made own : RecordType) (number : ℕ) (other : Bool) → other ≡ not (same_type made own)
    → other ≡ false
    → made ≡ type_of number → number ≡ type_number own → own ≡ t → type_of (type_number t) ≡ t
reads_type t made own number other asked unlike reads writes is =
    sym (reads ∙ ap type_of (writes ∙ ap type_number is))
    ∙ (types_Decide made own).0 (not-false (same_type made own) (sym asked ∙ unlike)) ∙ is
