-- What walking a message is asked for: each is read at a place, in a buffer that reaches as far.
use Rattle.std.specs.Int.{w16, w32}
use Rattle.std.specs.Prelude.{◌≡◌, ℕ, List, Result, Ok, Err}
use Rattle.base.specs.DecodeError.{decode_number}
use Rattle.base.specs.names.Labels.{NameValue}
use Rattle.base.specs.texts.NameText.{name_text}
use Rattle.base.specs.reading.Names.{name_at}
use Rattle.base.specs.reading.Reading.{Fails, ◌>>=◌, bytes_at, number_at}
use Rattle.base.specs.declared.error.decode_error.DecodeError.{DecodeError}
use Rattle.base_data.specs.Kinds.{data_text}
use Rattle.rr.specs.Record.{record_at}
use Rattle.tasks.specs.Asked.{Asked}
use Rattle.tasks.specs.declared.walk.OptionFound.{OptionFound}
use Rattle.tasks.specs.declared.walk.QueryFound.{QueryFound}
use Rattle.tasks.specs.declared.walk.RecordFound.{RecordFound}

-- what is found in bytes, or the first fault
abbrev pub Found : Type 0 → Type 0
Found A = Result A DecodeError

-- What was found is this, or a fault of it; or memory ran out.
abbrev pub Finds : {A : Type 0} → Found A → Found A → Type 0
Finds found (Ok x) = found ≡ Ok x
Finds found (Err e) = Fails e found

-- the question at a place, and the place after it
abbrev pub query_found : List ℕ → ℕ → Found (QueryFound × ℕ)
query_found bytes place =
    bytes_at place bytes 0 >>= λ before. name_at bytes before.1 >>= λ name.
    number_at w16 bytes name.1 >>= λ type. number_at w16 bytes type.1 >>= λ class.
    Ok (record { name = place; query_type = type.0; class = class.0 }, class.1)

-- the place after the record at a place
abbrev pub record_end : List ℕ → ℕ → Found ℕ
record_end bytes place = bytes_at place bytes 0 >>= λ before. record_at bytes before.1
    >>= λ r. Ok r.1

-- the fields of a record whose owner is given, from the place after that on
abbrev pub fields_found : List ℕ → ℕ → ℕ → Found RecordFound
fields_found bytes owner place =
    number_at w16 bytes place >>= λ type. number_at w16 bytes type.1 >>= λ class.
    number_at w32 bytes class.1 >>= λ ttl. number_at w16 bytes ttl.1 >>= λ len.
    Ok (
    record {
      name = owner;
      data_place = len.1;
      ttl = ttl.0;
      record_type = type.0;
      class = class.0;
      data_len = len.0;
    }
    )

-- the record at a place, and the place after it
abbrev pub record_found : List ℕ → ℕ → Found (RecordFound × ℕ)
record_found bytes place =
    record_end bytes place >>= λ end. bytes_at place bytes 0 >>= λ before. name_at bytes before.1
    >>= λ name. fields_found bytes place name.1 >>= λ found. Ok (found, end)

-- the option at a place, and the place after it
abbrev pub option_found : List ℕ → ℕ → Found (OptionFound × ℕ)
option_found bytes place =
    bytes_at place bytes 0 >>= λ before. number_at w16 bytes before.1
    >>= λ code. number_at w16 bytes code.1 >>= λ len.
    bytes_at len.0 bytes len.1
    >>= λ text. Ok (record { data_place = len.1; code = code.0; data_len = len.0 }, text.1)

-- the name at a place
abbrev pub name_found : List ℕ → ℕ → Found NameValue
name_found bytes place = bytes_at place bytes 0 >>= λ before. name_at bytes before.1
    >>= λ name. Ok name.0

-- ---- as callers are told it

-- what was found, with the number in the place of the fault
abbrev pub told : {A : Type 0} → Found A → Asked A
told (Ok x) = Ok x
told (Err fault) = Err (decode_number fault)

-- the question at a place, as callers are told it
abbrev pub found_query : List ℕ → ℕ → Asked (QueryFound × ℕ)
found_query bytes place = told (query_found bytes place)

-- the record at a place, as callers are told it
abbrev pub found_record : List ℕ → ℕ → Asked (RecordFound × ℕ)
found_record bytes place = told (record_found bytes place)

-- the option at a place, as callers are told it
abbrev pub found_option : List ℕ → ℕ → Asked (OptionFound × ℕ)
found_option bytes place = told (option_found bytes place)

-- the text of the name at a place
abbrev pub name_text_at : List ℕ → ℕ → Asked (List ℕ)
name_text_at bytes place = told (name_found bytes place >>= λ name. Ok (name_text name))

-- the text of the data of the record at a place
abbrev pub data_text_at : List ℕ → ℕ → Asked (List ℕ)
data_text_at bytes place = told (bytes_at place bytes 0 >>= λ before. record_at bytes before.1
    >>= λ r. Ok (data_text r.0.rdata))
