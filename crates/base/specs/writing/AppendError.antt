-- Why bytes were not appended.
use Rattle.std.specs.Prelude.{Result, Ok, Err}
use Rattle.base.specs.declared.error.proto_error.ProtoError.{ProtoError}
use Rattle.base.specs.declared.error.proto_error.ProtoError.TheVariants as refusals
use Rattle.base.specs.declared.wire.encoder.append.AppendError.{AppendError}
use Rattle.base.specs.declared.wire.encoder.append.AppendError.TheVariants.{NoRoom, Memory}

-- what a caller is told
abbrev pub refusal : AppendError → ProtoError
refusal NoRoom = refusals.MaxBufferSizeExceeded
refusal Memory = refusals.Memory

-- an answer as a caller is told it
abbrev pub told : {X : Type 0} → Result X AppendError → Result X ProtoError
told (Ok x) = Ok x
told (Err reason) = Err (refusal reason)
