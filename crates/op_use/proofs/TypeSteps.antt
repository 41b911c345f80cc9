-- The types that updates treat apart, as types are compared.
use Rattle.base.specs.RecordType.{same_type}
use Rattle.base.specs.declared.record_type.RecordType.TheVariants as types
use Rattle.base.specs.declared.record_type.RecordType.{RecordType}
use Rattle.op_use.specs.Server.{is_any, is_cname}
use Rattle.rr.specs.RecordSet.{is_soa}
use Rattle.std.proofs.Common.{rules}
use Rattle.std.specs.Prelude.{◌≡◌}

pub soa_is : (t : RecordType) → is_soa t ≡ same_type t types.SOA
soa_is = search rules

pub cname_is : (t : RecordType) → is_cname t ≡ same_type t types.CNAME
cname_is = search rules

pub any_is : (t : RecordType) → is_any t ≡ same_type t types.ANY
any_is = search rules
