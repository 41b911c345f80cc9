-- Aliases (RFC 1035, 3.3.1).
use Rattle.std.specs.Prelude.{ℕ, List, Option}
use Rattle.base.specs.names.Labels.{NameValue}
use Rattle.base.specs.reading.Reading.{Read}
use Rattle.base_data.specs.Kind.{Kind}
use Rattle.base_data.specs.OneName.{name_kind, one_name_at, one_name_of}
use Rattle.base_data.specs.declared.rdata.cname.CNAME.{CNAME}
use Rattle.base.specs.writing.SaysName.{Says-name}
use Rattle.base.specs.writing.SaysParts.{Says-unowned}
use Rattle.base.specs.writing.Written.{name}

-- the data at a place
unfoldable pub cname_at : List ℕ → ℕ → Read CNAME
cname_at = one_name_at (λ name. record { name = name })

-- the data that one item names
unfoldable pub cname_of : List (List ℕ) → Option NameValue → Option CNAME
cname_of = one_name_of (λ name. record { name = name })

-- the kind CNAME
abbrev pub cname_kind : CNAME → Kind
cname_kind x =
    name_kind x.name (name x.name.labels)
    (Says-unowned (name x.name.labels) (Says-name x.name.labels))
