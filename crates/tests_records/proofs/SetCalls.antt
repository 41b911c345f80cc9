-- What the tests of record sets owe to the calls.
use Rattle.std.proofs.Common.{◌≡◌, true}
use Rattle.base.specs.RecordType.{same_type}
use Rattle.base.specs.declared.record_type.RecordType.{RecordType}
use Rattle.base_data.proofs.SameData.{types_Decide}

pub one_type : (a b : RecordType) → same_type a b ≡ true → a ≡ b
one_type a b h = (types_Decide a b).0 h
