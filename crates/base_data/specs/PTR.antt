-- PTR data, a domain name pointer (RFC 1035, 3.3.12).
use Rattle.std.specs.Prelude.{ℕ, List, Option}
use Rattle.base.specs.names.Labels.{NameValue}
use Rattle.base.specs.reading.Reading.{Read}
use Rattle.base_data.specs.Kind.{Kind}
use Rattle.base_data.specs.OneName.{name_kind, one_name_at, one_name_of}
use Rattle.base_data.specs.declared.rdata.ptr.PTR.{PTR}
use Rattle.base.specs.writing.SaysName.{Says-name}
use Rattle.base.specs.writing.SaysParts.{Says-unowned}
use Rattle.base.specs.writing.Written.{name}

-- the data at a place
unfoldable pub ptr_at : List ℕ → ℕ → Read PTR
ptr_at = one_name_at (λ name. record { name = name })

-- the data that one item names
unfoldable pub ptr_of : List (List ℕ) → Option NameValue → Option PTR
ptr_of = one_name_of (λ name. record { name = name })

-- the kind PTR
abbrev pub ptr_kind : PTR → Kind
ptr_kind x =
    name_kind x.name (name x.name.labels)
    (Says-unowned (name x.name.labels) (Says-name x.name.labels))
