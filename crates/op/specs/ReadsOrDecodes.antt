-- Reading by calls whose refusals wrap those of reading.
use Rattle.std.specs.Prelude.{◌≡◌, ℕ, Result, Ok, Err}
use Rattle.base.specs.reading.Reader.{Reader}
use Rattle.base.specs.reading.Reading.{Fails}
use Rattle.base.specs.declared.error.decode_error.DecodeError.{DecodeError}
use Rattle.base.specs.declared.error.proto_error.ProtoError.{ProtoError}
use Rattle.base.specs.declared.error.proto_error.ProtoError.TheVariants as refusals

-- a refusal that wraps one of reading
abbrev pub FailsToDecode : {Y : Type 0} → ProtoError → Result Y DecodeError → Type 0
FailsToDecode (refusals.Decode f) read = Fails f read
FailsToDecode _ read = ⊥

-- What a call answered, seen by view, is what reading gives, and the decoder stands after it; a refusal wraps
-- reading's.
abbrev pub ReadsOrDecodes : {X Y : Type 0} → (X → Y) → Reader → Reader → Result X ProtoError
    → Result (Y × ℕ) DecodeError → Type 0
ReadsOrDecodes view old new (Ok x) read = (read ≡ Ok (view x, new.index)) × (new.bytes ≡ old.bytes)
ReadsOrDecodes view old new (Err e) read = FailsToDecode e read
