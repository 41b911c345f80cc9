-- The record word (RFC 1035, 4.1.3; an OPT record: RFC 6891, 6.1.2; the top bit of the class: RFC 6762, 10.2).
use Rattle.std.specs.Prelude.{◌≡◌, ◌≢◌, ◌≤◌, ℕ, ◌+◌, ◌-◌, ◌<◌, ◌==◌, length, List, [], ◌∷◌, ◌++◌, codes, true, false}
use Rattle.std.specs.Prelude.{not, ◌&&◌, Bool, if◌then◌else◌, nat_lt, Ok, Err}
use Rattle.std.specs.Fmt.{decimal}
use Rattle.std.specs.Int.{w16, w32, to_be_bytes}
use Rattle.base.specs.DNSClass.{class_field, class_number, class_text, class_of, field_class, field_top, opt_class}
use Rattle.base.specs.reading.Faults.{IsFaulty}
use Rattle.base.specs.names.Labels.{NameValue, plain_len}
use Rattle.base.specs.texts.NameText.{name_text}
use Rattle.base.specs.reading.Names.{name_at}
use Rattle.base.specs.reading.Reading.{Read, ◌>>=◌, place_after, number_at}
use Rattle.base.specs.RecordType.{type_number, type_of, type_text}
use Rattle.base.specs.reading.Spelling.{IsNameAt}
use Rattle.base.specs.Words.{IsNumberAt, NameAt}
use Rattle.base.specs.writing.Written.{Writing, both, just, name, sized}
use Rattle.base.specs.declared.dns_class.DNSClass.{DNSClass}
use Rattle.base.specs.declared.error.decode_error.DecodeError.{DecodeError}
use Rattle.base.specs.declared.error.decode_error.DecodeError.TheVariants as faults
use Rattle.base.specs.declared.record_type.RecordType.{RecordType}
use Rattle.base.specs.declared.record_type.RecordType.TheVariants as types
use Rattle.base_data.specs.Kinds.{DataWord, IsReadable, data_names, data_places, data_text, data_written, plain_data}
use Rattle.base_data.specs.Kinds.{type_of_data}
use Rattle.base_data.specs.DataAt.{IsDataAt}
use Rattle.base_data.specs.RData.{rdata_at}
use Rattle.base_data.specs.declared.rdata.RData.{RData}
use Rattle.rr.specs.declared.record.Record.{Record}
use Rattle.base.specs.RrKey.{key_of}
use Rattle.base.specs.declared.rr_key.RrKey.{RrKey}

-- the fields of a record on the wire, its data as what it stands for
pub record RawRecord : Type 0 where
  pub labels : List (List ℕ)
  pub type : ℕ
  pub class : ℕ
  pub ttl : ℕ
  pub rdata : RData

-- These fields stand in B from i up to e, the data after the number of its bytes.
pub record IsRawRecordAt (B : List ℕ) (i : ℕ) (raw : RawRecord) (e : ℕ) : Type 0 where
  pub owner_end : ℕ
  pub owner : NameAt raw.labels B i owner_end
  pub type_stands : IsNumberAt w16 B owner_end raw.type
  pub class_stands : IsNumberAt w16 B (owner_end + 2) raw.class
  pub ttl_stands : IsNumberAt w32 B (owner_end + 4) raw.ttl
  pub len : ℕ
  pub len_stands : IsNumberAt w16 B (owner_end + 8) len
  pub rdata_stands : DataWord raw.rdata B (owner_end + 10) e
  pub fills : e ≡ owner_end + 10 + len

-- whether this is the type of EDNS records
abbrev pub is_opt_type : RecordType → Bool
is_opt_type types.OPT = true
is_opt_type _ = false

-- the class that the class field of a type is read as: the payload size of an OPT record, of 512 at least
abbrev pub class_value : RecordType → ℕ → DNSClass
class_value type class = if is_opt_type type then opt_class class else field_class class

-- whether the class field of a type says to flush the cache; that of an OPT record never does
abbrev pub flush_value : RecordType → ℕ → Bool
flush_value type class = if is_opt_type type then false else field_top class

-- The fields are read as this record: the owner of an OPT record is the root, and the data is read by its type.
pub record IsRecordValue (raw : RawRecord) (r : Record RData) : Type 0 where
  pub owner : r.name ≡ record { labels = raw.labels; absolute = true }
  pub root : type_of raw.type ≡ types.OPT → raw.labels ≡ []
  pub type_is : type_of_data r.rdata ≡ type_of raw.type
  pub class : r.dns_class ≡ class_value (type_of raw.type) raw.class
  pub flush : r.mdns_cache_flush ≡ flush_value (type_of raw.type) raw.class
  pub ttl : r.ttl ≡ raw.ttl
  pub rdata : r.rdata ≡ raw.rdata
  pub readable : IsReadable r.rdata

-- a record word stands in B from i up to e, and is read as this record
pub record IsRecordAt (B : List ℕ) (i : ℕ) (r : Record RData) (e : ℕ) : Type 0 where
  pub raw : RawRecord
  pub word : IsRawRecordAt B i raw e
  pub value : IsRecordValue raw r

-- the record that fields are read as
abbrev pub record_value : RawRecord → Record RData
record_value raw = record {
  name = record { labels = raw.labels; absolute = true };
  dns_class = class_value (type_of raw.type) raw.class;
  ttl = raw.ttl;
  rdata = raw.rdata;
  mdns_cache_flush = flush_value (type_of raw.type) raw.class;
}

-- the fields that a record is written as
abbrev pub raw_record : Record RData → RawRecord
raw_record r = record {
  labels = r.name.labels;
  type = type_number (type_of_data r.rdata);
  class = class_field r.mdns_cache_flush (class_number r.dns_class);
  ttl = r.ttl;
  rdata = r.rdata;
}

-- the word that a record is written as
abbrev pub RecordWord : Record RData → List ℕ → ℕ → ℕ → Type 0
RecordWord r B i e = IsRawRecordAt B i (raw_record r) e

-- type, class and TTL as they are written, the highest byte of each first
abbrev pub fields_of : ℕ → ℕ → ℕ → List ℕ
fields_of type class ttl = to_be_bytes w16 type ++ (to_be_bytes w16 class ++ to_be_bytes w32 ttl)

-- what is written of a record: its name, type, class and TTL, RDLENGTH, and its data (RFC 1035, 3.2.1)
abbrev pub record_written : Record RData → Writing
record_written r =
    let raw = raw_record r in
    both (name raw.labels)
    (both (just (fields_of raw.type raw.class raw.ttl)) (sized (data_written raw.rdata)))

-- the bytes of a record without compression
abbrev pub plain_record : Record RData → ℕ
plain_record r = plain_len r.name.labels + (10 + plain_data r.rdata)

-- the record with its data seen so
abbrev pub with_data : {R N : Type 0} → (R → N) → Record R → Record N
with_data seen r =
    record {
      name = r.name;
      dns_class = r.dns_class;
      ttl = r.ttl;
      rdata = seen r.rdata;
      mdns_cache_flush = r.mdns_cache_flush;
    }

-- the record with this data in place of its own
abbrev pub holding : {R N : Type 0} → N → Record R → Record N
holding rdata r = with_data (λ _. rdata) r

-- the record with `offset` seconds off its TTL, down to 0
abbrev pub decremented : {R : Type 0} → ℕ → Record R → Record R
decremented offset r = record r { ttl = r.ttl - offset }

-- A record that is read as some record where it was written: its type is that of its number, an OPT record's owner is
-- the root, and its data is read by its type.
pub record IsReadableRecord (r : Record RData) : Type 0 where
  pub type_reads : type_of (type_number (type_of_data r.rdata)) ≡ type_of_data r.rdata
  pub root : type_of_data r.rdata ≡ types.OPT → r.name.labels ≡ []
  pub readable : IsReadable r.rdata

-- A record that can stand on the wire and is read as it was: its name is absolute, and its class is that of its number
-- and leaves the top bit free; that of an OPT record is a payload size of 512 at least, without the bit.
pub record FitsRecord (r : Record RData) : Type 0 where
  pub reads : IsReadableRecord r
  pub absolute : r.name.absolute ≡ true
  pub class_reads : is_opt_type (type_of_data r.rdata) ≡ false
      → class_of (class_number r.dns_class) ≡ r.dns_class
  pub narrow : is_opt_type (type_of_data r.rdata) ≡ false → class_number r.dns_class < 32768
  pub payload_reads : is_opt_type (type_of_data r.rdata) ≡ true
      → opt_class (class_number r.dns_class) ≡ r.dns_class
  pub not_flushing : is_opt_type (type_of_data r.rdata) ≡ true → r.mdns_cache_flush ≡ false

-- The record of this owner and type whose class, TTL, length and data stand at i, in this order, or its first fault.
unfoldable pub body_at : NameValue → RecordType → List ℕ → ℕ → Read (Record RData)
body_at owner type bytes i = do
  class ← number_at w16 bytes i
  ttl ← number_at w32 bytes class.1
  len ← number_at w16 bytes ttl.1
  if nat_lt (length bytes) (len.1 + len.0)
      then Err (faults.IncorrectRDataLengthRead (length bytes - len.1) len.0) else (do
        rdata ← rdata_at type len.0 bytes len.1
        Ok (
          record {
            name = owner;
            dns_class = class_value type class.0;
            ttl = ttl.0;
            rdata = rdata.0;
            mdns_cache_flush = flush_value type class.0;
          },
          rdata.1,
        ))

-- The record that stands at i, or its first fault: that of its name or type, then an owner of an OPT record that isn't
-- the root, then what comes after.
unfoldable pub record_at : List ℕ → ℕ → Read (Record RData)
record_at bytes i = do
  owner ← name_at bytes i
  type ← number_at w16 bytes owner.1
  if is_opt_type (type_of type.0) && not (length owner.0.labels == 0)
      then Err (faults.EdnsNameNotRoot owner.0) else body_at owner.0 (type_of type.0) bytes type.1

-- the names of a record: its owner's, and those of its data from the left
abbrev pub record_names : Record RData → List NameValue
record_names r = r.name ∷ data_names r.rdata

-- the places of the names of the data of a record that was read, where that begins at a place
abbrev pub places_in : Read (Record RData) → List ℕ → ℕ → List ℕ
places_in (Ok r) bytes i = data_places r.0.rdata bytes i
places_in (Err e) bytes i = []

-- The places of the names of the record that stands at i: its owner's, and those of its data, ten bytes after the owner
-- (RFC 1035, 4.1.3).
abbrev pub record_places : List ℕ → ℕ → List ℕ
record_places bytes i = i ∷ places_in (record_at bytes i) bytes (place_after (name_at bytes i) + 10)

-- a name and a type stand at i, and the owner of an OPT record is the root
pub record HasHead (B : List ℕ) (i : ℕ) (owner : NameValue) (type m : ℕ) : Type 0 where
  pub owner_stands : IsNameAt B i owner m
  pub type_stands : IsNumberAt w16 B m type
  pub root : type_of type ≡ types.OPT → owner.labels ≡ []

-- The first fault of a record at i: that of its name; the end of the buffer in its type; an OPT record of another owner
-- than the root; the end of the buffer in class, TTL or length; a length of more bytes than are left; bytes that are no
-- data of the type.
pub data IsRecordFault (B : List ℕ) (i : ℕ) : DecodeError → Type 0 where
  in_name : {f : DecodeError} → IsFaulty B i i 0 f → IsRecordFault B i f
  cut_type : {owner : NameValue} {m : ℕ} → IsNameAt B i owner m → length B < m + 2
      → IsRecordFault B i faults.InsufficientBytes
  opt_owner : {owner : NameValue} {type m : ℕ} → IsNameAt B i owner m → IsNumberAt w16 B m type
      → type_of type ≡ types.OPT → owner.labels ≢ []
      → IsRecordFault B i (faults.EdnsNameNotRoot owner)
  cut_fields : {owner : NameValue} {type m : ℕ} → HasHead B i owner type m → length B < m + 10
      → IsRecordFault B i faults.InsufficientBytes
  long_data : {owner : NameValue} {type m len : ℕ} → HasHead B i owner type m
      → IsNumberAt w16 B (m + 8) len
      → length B < m + 10 + len
      → IsRecordFault B i (faults.IncorrectRDataLengthRead (length B - (m + 10)) len)
  bad_data : {owner : NameValue} {type m len : ℕ} → HasHead B i owner type m
      → IsNumberAt w16 B (m + 8) len → m + 10 + len ≤ length B
      → ((d : RData) → ¬ IsDataAt B (m + 10) (type_of type) len d)
      → IsRecordFault B i (faults.BadData (type_of type))

-- name, TTL, class, type and data
abbrev pub record_text : Record RData → List ℕ
record_text r =
    name_text r.name
    ++ (codes " "
    ++ (decimal r.ttl
    ++ (codes " "
    ++ (class_text r.dns_class
    ++ (codes " " ++ (type_text (type_of_data r.rdata) ++ (codes " " ++ data_text r.rdata)))))))

-- the type of a record, that of its data (RFC 1035, 3.2.1)
abbrev pub type_of_record : Record RData → RecordType
type_of_record r = type_of_data r.rdata

-- the key that a record stands under: its owner in lower case and its type (RFC 2181, 5)
abbrev pub record_key : Record RData → RrKey
record_key r = key_of r.name (type_of_record r)
