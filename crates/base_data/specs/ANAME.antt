-- ANAME data: a name whose addresses the owner has too.
use Rattle.std.specs.Prelude.{ℕ, List, Option}
use Rattle.base.specs.names.Labels.{NameValue}
use Rattle.base.specs.reading.Reading.{Read}
use Rattle.base_data.specs.Kind.{Kind}
use Rattle.base_data.specs.OneName.{name_kind, one_name_at, one_name_of}
use Rattle.base_data.specs.declared.rdata.aname.ANAME.{ANAME}
use Rattle.base.specs.writing.SaysName.{Says-plain_name}
use Rattle.base.specs.writing.Written.{plain_name}

-- the data at a place
unfoldable pub aname_at : List ℕ → ℕ → Read ANAME
aname_at = one_name_at (λ name. record { name = name })

-- the data that one item names
unfoldable pub aname_of : List (List ℕ) → Option NameValue → Option ANAME
aname_of = one_name_of (λ name. record { name = name })

-- the kind ANAME
abbrev pub aname_kind : ANAME → Kind
aname_kind x = name_kind x.name (plain_name x.name.labels) (Says-plain_name x.name.labels)
