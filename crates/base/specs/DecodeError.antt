-- The numbers of the refusals of reading.
use Rattle.std.specs.Prelude.{ℕ}
use Rattle.base.specs.declared.error.decode_error.DecodeError.{DecodeError}
use Rattle.base.specs.declared.error.decode_error.DecodeError.TheVariants as faults

-- the number of each refusal
abbrev pub decode_number : DecodeError → ℕ
decode_number faults.Memory = 3
decode_number faults.InsufficientBytes = 4
decode_number faults.BadName = 5
decode_number (faults.EdnsNameNotRoot owner) = 6
decode_number (faults.IncorrectRDataLengthRead read len) = 7
decode_number (faults.BadData type) = 8
decode_number faults.InvalidEmptyRecord = 10
decode_number faults.RecordAfterSig = 11
decode_number (faults.RecordNotInAdditionalSection type) = 12
decode_number faults.DuplicateEdns = 13
