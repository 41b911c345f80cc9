-- The order of record data: by the bytes of the canonical form (RFC 4034, 6.2 and 6.3), and then by what these leave
-- open.
use Rattle.std.specs.Prelude.{Bool, List}
use Rattle.std.specs.Cmp.Lexicographic.{slice_cmp}
use Rattle.std.specs.Ordering.{bool_cmp, nat_cmp, on, then_cmp}
use Rattle.std.specs.declared.cmp.Ordering.{Ordering}
use Rattle.base.specs.names.Labels.{NameValue}
use Rattle.base.specs.RecordType.{type_cmp}
use Rattle.base_data.specs.Kinds.{canonical_data, kind_rank, name_flags, type_of_data}
use Rattle.base_data.specs.Opaque.{bytes_cmp}
use Rattle.base_data.specs.declared.rdata.RData.{RData}

-- the order of the flags of two names, relative first
abbrev pub flag_cmp : NameValue → NameValue → Ordering
flag_cmp = on (λ name. name.absolute) bool_cmp

-- the order of the flags of names, relative first
abbrev pub flags_cmp : List Bool → List Bool → Ordering
flags_cmp = slice_cmp bool_cmp

-- the order: by the bytes of the canonical form, what is a beginning before what it begins; by type; by kind; by the
-- flags of names
abbrev pub data_cmp : RData → RData → Ordering
data_cmp =
    then_cmp (on canonical_data bytes_cmp)
    (then_cmp (on type_of_data type_cmp)
    (then_cmp (on kind_rank nat_cmp) (on name_flags flags_cmp)))
