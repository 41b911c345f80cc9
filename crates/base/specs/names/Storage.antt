-- What stored labels are, wherever they are.
use Rattle.base.specs.names.StoredLabels.{StoredLabels}
use Rattle.base.specs.declared.labels.Storage.TheVariants.{Inline, Heap}
use Rattle.base.specs.declared.labels.Storage.{Storage}

-- those that are inside the value, or in memory of their own
abbrev pub stored_in : Storage → StoredLabels
stored_in (Inline inline) = inline
stored_in (Heap is_fqdn bytes) = record { items = bytes.items; is_fqdn = is_fqdn }
