-- The generic form, in which zone text has types without a name and data of any type (RFC 3597, 5).
use Rattle.std.specs.Option.{ok_or, option_or}
use Rattle.std.specs.List.{flat_map, starts_with}
use Rattle.std.specs.Prelude.{ℕ, List, [], ◌∷◌, ◌==◌, codes, drop, if◌then◌else◌, length, nat_eq, None, Option}
use Rattle.std.specs.Prelude.{option_map, Result}
use Rattle.std.specs.Result.{result_ok}
use Rattle.std.specs.Str.{bytes_eq}
use Rattle.hex.specs.Hex.{decode_of}
use Rattle.base.specs.names.Labels.{NameValue}
use Rattle.base.specs.RecordType.{type_from_text, type_of}
use Rattle.base.specs.texts.TextFaults.{Fault, bad_data}
use Rattle.base.specs.declared.record_type.RecordType.{RecordType}
use Rattle.base_data.specs.Fields.{number_item, ◌>>?◌}
use Rattle.base_data.specs.Kinds.{data_of}
use Rattle.base_data.specs.RData.{rdata_at}
use Rattle.base_data.specs.declared.rdata.RData.{RData}

-- what stands before the number of a type
abbrev pub type_sign : List ℕ
type_sign = codes "TYPE"

-- the type that TYPE and its decimal number name
abbrev pub numbered_type : List ℕ → Option RecordType
numbered_type text = if starts_with nat_eq text type_sign
    then option_map type_of (number_item 16 (drop (length type_sign) text)) else None

-- the type that a text in upper case names, by its name or by its number
abbrev pub any_type : List ℕ → Option RecordType
any_type text = option_or (type_from_text text) (numbered_type text)

-- the bytes whose hexadecimal digits words are, one after another
abbrev pub bytes_of_words : List (List ℕ) → Option (List ℕ)
bytes_of_words words = result_ok (decode_of (flat_map (λ word. word) words))

-- the data of a type that is these bytes, all of them
abbrev pub data_in_bytes : RecordType → List ℕ → Option RData
data_in_bytes type bytes = option_map (λ r. r.0) (result_ok (rdata_at type (length bytes) bytes 0))

-- the data of a type whose number of bytes and bytes items are
abbrev pub counted_data : RecordType → List (List ℕ) → Option RData
counted_data type [] = None
counted_data type (count ∷ words) =
    number_item 16 count >>? λ n. bytes_of_words words >>? λ bytes.
    if length bytes == n then data_in_bytes type bytes else None

-- what stands before data in the generic form
abbrev pub data_sign : List ℕ
data_sign = codes "\\#"

-- The data of a type that items name under an origin: after the sign \# in the generic form, whatever the type, else as
-- the type has it.
abbrev pub any_data : RecordType → List (List ℕ) → Option NameValue → Result RData Fault
any_data type [] origin = data_of type [] origin
any_data type (first ∷ items) origin = if bytes_eq first data_sign
    then ok_or (counted_data type items) (bad_data type) else data_of type (first ∷ items) origin
