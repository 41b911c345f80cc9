-- Where data stands: the same words for reading and for writing (RFC 1035, 3.2.1 and 3.3; RFC 3597, 3 and 4).
use Rattle.std.specs.Prelude.{◌≡◌, ℕ, ◌+◌, List}
use Rattle.base.specs.declared.record_type.RecordType.{RecordType}
use Rattle.base_data.specs.Kinds.{DataWord, IsReadable, type_of_data}
use Rattle.base_data.specs.declared.rdata.RData.{RData}

-- The data d of a type stands in B from i, and fills `len` bytes.
pub record IsDataAt (B : List ℕ) (i : ℕ) (type : RecordType) (len : ℕ) (d : RData) : Type 0 where
  pub type_is : type_of_data d ≡ type
  pub word : DataWord d B i (i + len)
  pub readable : IsReadable d
