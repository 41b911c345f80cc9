-- When data is equal.
use Rattle.std.specs.Prelude.{Bool}
use Rattle.base_data.specs.contracts.rdata.RDataPartialEq.TheImpl as data_eq
use Rattle.base_data.specs.declared.rdata.RData.{RData}

-- whether data is equal: of one kind, and equal as data of that kind
abbrev pub same_data : RData → RData → Bool
same_data = (data_eq.ghosts).eq
