-- The keys under which records of one owner and one type stand together (RFC 2181, 5).
use Rattle.std.specs.declared.cmp.Ordering.{Ordering}
use Rattle.std.specs.Ordering.{ordering_then}
use Rattle.base.specs.declared.record_type.RecordType.{RecordType}
use Rattle.base.specs.declared.rr_key.RrKey.{RrKey}
use Rattle.base.specs.names.Labels.{NameValue}
use Rattle.base.specs.names.NameOrder.{lowered, lower_cmp}
use Rattle.base.specs.RecordType.{type_cmp}

-- the key of an owner, in whatever case, and a type
abbrev pub key_of : NameValue → RecordType → RrKey
key_of owner record_type = record { name = lowered owner; record_type = record_type }

-- keys go by name, then by type
abbrev pub key_cmp : RrKey → RrKey → Ordering
key_cmp a b = ordering_then (lower_cmp a.name b.name) (type_cmp a.record_type b.record_type)
