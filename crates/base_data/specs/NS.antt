-- Authoritative servers (RFC 1035, 3.3.11).
use Rattle.std.specs.Prelude.{ℕ, List, Option}
use Rattle.base.specs.names.Labels.{NameValue}
use Rattle.base.specs.reading.Reading.{Read}
use Rattle.base_data.specs.Kind.{Kind}
use Rattle.base_data.specs.OneName.{name_kind, one_name_at, one_name_of}
use Rattle.base_data.specs.declared.rdata.ns.NS.{NS}
use Rattle.base.specs.writing.SaysName.{Says-name}
use Rattle.base.specs.writing.SaysParts.{Says-unowned}
use Rattle.base.specs.writing.Written.{name}

-- the data at a place
unfoldable pub ns_at : List ℕ → ℕ → Read NS
ns_at = one_name_at (λ name. record { name = name })

-- the data that one item names
unfoldable pub ns_of : List (List ℕ) → Option NameValue → Option NS
ns_of = one_name_of (λ name. record { name = name })

-- the kind NS
abbrev pub ns_kind : NS → Kind
ns_kind x =
    name_kind x.name (name x.name.labels)
    (Says-unowned (name x.name.labels) (Says-name x.name.labels))
