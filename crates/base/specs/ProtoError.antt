-- The numbers of all other refusals.
use Rattle.std.specs.Prelude.{ℕ, codes, if◌then◌else◌}
use Rattle.std.specs.Str.{bytes_eq}
use Rattle.base.specs.DecodeError.{decode_number}
use Rattle.base.specs.declared.error.proto_error.ProtoError.{ProtoError}
use Rattle.base.specs.declared.error.proto_error.ProtoError.TheVariants as refusals

-- the number of each refusal
abbrev pub proto_number : ProtoError → ℕ
proto_number refusals.MaxBufferSizeExceeded = 1
proto_number (refusals.NotAllRecordsWritten count) = 2
proto_number refusals.Memory = 3
proto_number refusals.NotOpt = 9
proto_number (refusals.Message text) =
    if bytes_eq text.now (codes "too many records to fit in header count") then 14
    else (if bytes_eq text.now (codes "too many queries to fit in header count") then 15 else 0)
proto_number refusals.NotAResponse = 16
proto_number (refusals.Decode e) = decode_number e
