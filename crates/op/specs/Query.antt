-- The question word (RFC 1035, 4.1.2; the top bit of the class: RFC 6762, 5.4).
use Rattle.std.specs.Prelude.{◌≡◌, ℕ, ◌+◌, ◌<◌, ◌⊎◌, length, List, ◌++◌, codes, true, false, if◌then◌else◌, Ok}
use Rattle.std.specs.Int.{w16, to_be_bytes}
use Rattle.base.specs.DNSClass.{class_field, class_number, class_text, class_of, field_class, field_top}
use Rattle.base.specs.names.Labels.{NameValue, plain_len}
use Rattle.base.specs.texts.NameText.{name_text}
use Rattle.base.specs.reading.Names.{name_at}
use Rattle.base.specs.reading.Reading.{Read, ◌>>=◌, number_at}
use Rattle.base.specs.RecordType.{type_number, type_of, type_text}
use Rattle.base.specs.reading.Faults.{IsFaulty}
use Rattle.base.specs.reading.Spelling.{IsNameAt}
use Rattle.base.specs.Words.{IsNumberAt, NameAt}
use Rattle.base.specs.writing.Written.{Writing, both, just, name}
use Rattle.base.specs.declared.error.decode_error.DecodeError.{DecodeError}
use Rattle.base.specs.declared.error.decode_error.DecodeError.TheVariants as faults
use Rattle.base.specs.declared.dns_class.DNSClass.TheVariants as classes
use Rattle.base.specs.declared.record_type.RecordType.{RecordType}
use Rattle.op.specs.declared.query.Query.{Query}

-- the fields of a question on the wire
pub record RawQuery : Type 0 where
  pub labels : List (List ℕ)
  pub type : ℕ
  pub class : ℕ

-- These fields stand in B from i up to e.
pub record IsRawQueryAt (B : List ℕ) (i : ℕ) (raw : RawQuery) (e : ℕ) : Type 0 where
  pub owner_end : ℕ
  pub owner : NameAt raw.labels B i owner_end
  pub type_stands : IsNumberAt w16 B owner_end raw.type
  pub class_stands : IsNumberAt w16 B (owner_end + 2) raw.class
  pub end : e ≡ owner_end + 4

-- the question that fields are read as
abbrev pub query_value : RawQuery → Query
query_value raw = record {
  name = record { labels = raw.labels; absolute = true };
  query_type = type_of raw.type;
  query_class = field_class raw.class;
  mdns_unicast_response = field_top raw.class;
}

-- the fields that a question is written as
abbrev pub raw_query : Query → RawQuery
raw_query q = record {
  labels = q.name.labels;
  type = type_number q.query_type;
  class = class_field q.mdns_unicast_response (class_number q.query_class);
}

-- a question word stands in B from i up to e
pub record IsQueryAt (B : List ℕ) (i : ℕ) (q : Query) (e : ℕ) : Type 0 where
  pub raw : RawQuery
  pub word : IsRawQueryAt B i raw e
  pub value : q ≡ query_value raw

-- the word that a question is written as
abbrev pub QueryWord : Query → List ℕ → ℕ → ℕ → Type 0
QueryWord q B i e = IsRawQueryAt B i (raw_query q) e

-- what is written of a question: its name, type and class
abbrev pub query_written : Query → Writing
query_written q = let raw = raw_query q
    in both (name raw.labels) (just (to_be_bytes w16 raw.type ++ to_be_bytes w16 raw.class))

-- the bytes of a question without compression
abbrev pub plain_query : Query → ℕ
plain_query q = plain_len q.name.labels + 4

-- A question that can stand on the wire and is read as it was: the name is absolute, type and class are
-- those of their numbers, and the class leaves the top bit free.
pub record FitsQuery (q : Query) : Type 0 where
  pub absolute : q.name.absolute ≡ true
  pub type_reads : type_of (type_number q.query_type) ≡ q.query_type
  pub class_reads : class_of (class_number q.query_class) ≡ q.query_class
  pub narrow : class_number q.query_class < 32768

-- the question that stands at i, or its first fault
unfoldable pub query_at : List ℕ → ℕ → Read Query
query_at bytes i = do
  owner ← name_at bytes i
  type ← number_at w16 bytes owner.1
  class ← number_at w16 bytes type.1
  Ok (
    record {
      name = owner.0;
      query_type = type_of type.0;
      query_class = field_class class.0;
      mdns_unicast_response = field_top class.0;
    },
    class.1,
  )

-- The first fault of a question at i: that of its name, or the end of the buffer in type or class.
abbrev pub IsQueryFault : List ℕ → ℕ → DecodeError → Type 0
IsQueryFault B i f = IsFaulty B i i 0 f
    ⊎ ((name : NameValue) × (m : ℕ) × IsNameAt B i name m × (length B < m + 4)
    × (f ≡ faults.InsufficientBytes))

-- name, class and type, and whether a unicast response is asked for
abbrev pub query_text : Query → List ℕ
query_text q =
    name_text q.name ++ (codes " " ++ (class_text q.query_class ++
    (codes " "
    ++ (type_text q.query_type
    ++ (codes "; mdns_unicast_response: "
    ++ (if q.mdns_unicast_response then codes "true" else codes "false"))))))

-- the question for a type of a name, in the class IN and answered by multicast
abbrev pub plain_question : NameValue → RecordType → Query
plain_question name query_type =
    record {
      name = name;
      query_type = query_type;
      query_class = classes.IN;
      mdns_unicast_response = false;
    }
