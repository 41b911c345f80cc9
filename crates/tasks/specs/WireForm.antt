-- Names and data in wire form, and their texts.
use Rattle.std.specs.Prelude.{Err, List, Ok, [], codes, if◌then◌else◌, length, nat_le, ℕ, ◌++◌, ◌∷◌}
use Rattle.base.specs.RecordType.{type_of, type_text}
use Rattle.base.specs.declared.limits.TheConstants.{MAX_MESSAGE}
use Rattle.base.specs.declared.record_type.RecordType.{RecordType}
use Rattle.base.specs.names.Labels.{NameValue, wire_of}
use Rattle.base_data.specs.Kinds.{data_text, data_written}
use Rattle.base_data.specs.RData.{rdata_at}
use Rattle.base_data.specs.SOA.{soa_numbers}
use Rattle.base_data.specs.declared.rdata.RData.{RData}
use Rattle.base_data.specs.declared.rdata.RData.TheVariants as kinds
use Rattle.rr.specs.declared.record.Record.{Record}
use Rattle.tasks.specs.Asked.{Asked, ◌>>=◌, read}
use Rattle.tasks.specs.Refusals.{not_one_set, too_long}
use Rattle.tasks.specs.Reply.{root}
use Rattle.tasks.specs.Update.{one_set}
use Rattle.tasks.specs.ZoneText.{characters, zone_name_of}

-- ---- names

-- a name without compression: each label after its length, and a zero byte (RFC 1035, 3.1)
abbrev pub name_octets : NameValue → List ℕ
name_octets name = wire_of name.labels ++ 0 ∷ []

-- the name of a text, as an absolute one, in wire form
abbrev pub name_wire : List ℕ → Asked (List ℕ)
name_wire text = zone_name_of text >>= λ name. Ok (name_octets name)

-- ---- data

-- zone text of a record of the root with this text as its data (RFC 1035, 5.1)
abbrev pub data_line : RecordType → List ℕ → List ℕ
data_line type text = codes ". 0 " ++ (type_text type ++ (codes " " ++ text))

-- the data of the record, if there is exactly one
abbrev pub only_data : List (Record RData) → Asked RData
only_data (r ∷ []) = Ok r.rdata
only_data _ = Err not_one_set

-- the data of a type that a text is
abbrev pub data_named : RecordType → List ℕ → Asked RData
data_named type text = characters text >>= λ chars. one_set root (data_line type chars)
    >>= λ set. only_data set.records

-- bytes that RDLENGTH can count (RFC 1035, 3.2.1)
abbrev pub counted : List ℕ → Asked (List ℕ)
counted bytes = if nat_le (length bytes) MAX_MESSAGE then Ok bytes else Err too_long

-- Data without compression (RFC 1035, 3.3; RFC 3597, 4). What is written of it first has no name to point to, but for
-- the
-- second name of an SOA.
abbrev pub data_octets : RData → Asked (List ℕ)
data_octets (kinds.SOA x) = Ok (name_octets x.mname ++ (name_octets x.rname ++ soa_numbers x))
data_octets d = counted (data_written d 0 []).bytes

-- the data of a type that a text is, in wire form
abbrev pub data_wire : ℕ → List ℕ → Asked (List ℕ)
data_wire type text = data_named (type_of type) text >>= λ d. data_octets d

-- the text of the data of a type that bytes are
abbrev pub wire_text : ℕ → List ℕ → Asked (List ℕ)
wire_text type octets = counted octets >>= λ bytes. read (rdata_at (type_of type) (length bytes) bytes 0)
    >>= λ d. Ok (data_text d)
