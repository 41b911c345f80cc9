-- Why a name was not read.
use Rattle.std.specs.Prelude.{Result, Ok, Err}
use Rattle.base.specs.declared.error.decode_error.DecodeError.{DecodeError}
use Rattle.base.specs.declared.error.decode_error.DecodeError.TheVariants as faults
use Rattle.base.specs.declared.name.reading.NameFault.{NameFault}
use Rattle.base.specs.declared.name.reading.NameFault.TheVariants.{Memory, InsufficientBytes, BadName}

-- what a caller is told
abbrev pub fault_of : NameFault → DecodeError
fault_of Memory = faults.Memory
fault_of InsufficientBytes = faults.InsufficientBytes
fault_of BadName = faults.BadName

-- an answer as a caller is told it
abbrev pub told : {X : Type 0} → Result X NameFault → Result X DecodeError
told (Ok x) = Ok x
told (Err fault) = Err (fault_of fault)
