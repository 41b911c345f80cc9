-- The place of a zone transfer, as a caller in C keeps it.
use Rattle.std.specs.Prelude.{Err, Ok, if◌then◌else◌, not, take, ℕ, ◌==◌}
use Rattle.authority.specs.declared.transferring.TransferPlace.TheVariants as places
use Rattle.authority.specs.declared.transferring.TransferPlace.{TransferPlace}
use Rattle.base.specs.RecordType.{type_of}
use Rattle.base.specs.RrKey.{key_of}
use Rattle.base.specs.declared.record_type.RecordType.TheVariants as types
use Rattle.base.specs.declared.record_type.RecordType.{RecordType}
use Rattle.base.specs.declared.rr_key.RrKey.{RrKey}
use Rattle.base.specs.names.Labels.{NameValue}
use Rattle.base.specs.reading.Names.{name_at}
use Rattle.base.specs.reading.Reading.{Read}
use Rattle.tasks.specs.Asked.{Asked, ◌>>=◌}
use Rattle.tasks.specs.Refusals.{no_place}
use Rattle.capi.specs.declared.zone_handle.place.KeptPlace.{KeptPlace}

-- the type of this number, or, where the flag isn't 0, that without a name
abbrev pub type_by : ℕ → ℕ → RecordType
type_by flag number = if flag == 0 then type_of number else types.Unknown number

-- the key of the owner that was read
abbrev pub key_read : KeptPlace → Read NameValue → Asked RrKey
key_read kept (Ok (owner, end)) =
    Ok (key_of (record owner { absolute = not (kept.is_absolute == 0) }) (type_by kept.is_unknown kept.record_type))
key_read kept (Err fault) = Err no_place

-- the key that is kept
abbrev pub key_kept : KeptPlace → Asked RrKey
key_kept kept = key_read kept (name_at (take kept.name_len kept.name) 0)

-- the place that is kept, or the refusal of bytes that none is kept as
abbrev pub place_kept : KeptPlace → Asked TransferPlace
place_kept kept = if kept.kind == 0 then Ok places.Start
    else (if kept.kind == 1 then (key_kept kept >>= λ key. Ok (places.Records key kept.index))
    else (if kept.kind == 2 then Ok places.LastSoa
    else (if kept.kind == 3 then Ok places.End else Err no_place)))
