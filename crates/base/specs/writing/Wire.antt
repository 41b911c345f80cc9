-- The encoder's struct as a state.
use Rattle.std.specs.Prelude.{◌≡◌, ℕ, ◌+◌, ◌<◌, length, Result, Ok, Err, Vec}
use Rattle.std.specs.declared.alloc.Global.{Global}
use Rattle.base.specs.declared.error.proto_error.ProtoError.{ProtoError}
use Rattle.base.specs.declared.error.proto_error.ProtoError.TheVariants as refusals
use Rattle.base.specs.declared.wire.encoder.BinEncoder.{BinEncoder}
use Rattle.base.specs.declared.wire.suffix_table.SuffixTable.{SuffixTable}
use Rattle.base.specs.declared.wire.suffix_table.HasSuffixes.{Ghosts}
use Rattle.base.specs.contracts.wire.suffix_table.SuffixTableHasSuffixes.TheImpl.{ghosts}
use Rattle.base.specs.writing.State.{State}

-- the encoder with the table of suffixes that it has by itself
abbrev pub Encoder : Type 0
Encoder = BinEncoder SuffixTable ghosts

-- the bytes written so far, the limit, and the suffixes stored, with their places
abbrev pub state_of : Encoder → State
state_of e =
    record {
      buffer = e.buffer.ghost_name;
      bytes = e.buffer.now.items;
      limit = e.limit;
      suffixes = e.suffixes;
    }

-- the vector that an encoder writes to
abbrev pub vector_of : {T : Type 0} {g : Ghosts T} → BinEncoder T g → Vec ℕ Global
vector_of e = e.buffer.now

-- what takes n bytes at most is refused for the limit only where n more bytes would pass it, and else for memory alone
abbrev pub Refuses : {X : Type 0} → ℕ → State → Result X ProtoError → Type 0
Refuses n s (Ok _) = Unit {0}
Refuses n s (Err refusals.MaxBufferSizeExceeded) = s.limit < length s.bytes + n
Refuses n s (Err refusals.Memory) = Unit {0}
Refuses n s (Err _) = ⊥

-- refused for memory alone
abbrev pub IsMemory : {X : Type 0} → Result X ProtoError → Type 0
IsMemory (Ok _) = Unit {0}
IsMemory (Err e) = e ≡ refusals.Memory
