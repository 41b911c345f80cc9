-- The header word (RFC 1035, 4.1.1; AD and CD of RFC 4035, 3.1.6).
use Rattle.std.specs.Prelude.{◌≡◌, ℕ, ◌<◌, ◌^◌, ◌+◌, ◌*◌, ◌/◌, ◌%◌, Bool, true, false, ◌||◌, ◌==◌, List, [], ◌∷◌, ◌++◌}
use Rattle.std.specs.Prelude.{Ok}
use Rattle.std.specs.Int.{w16, to_be_bytes}
use Rattle.std.specs.Ordering.{on, then_cmp}
use Rattle.std.specs.declared.cmp.Ordering.{Ordering}
use Rattle.base.specs.reading.Spelling.{ByteAt, anywhere}
use Rattle.base.specs.Words.{IsNumberAt}
use Rattle.base.specs.reading.Reading.{Read, ◌>>=◌, byte_at, number_at}
use Rattle.op.specs.HeaderCounts.{counts_cmp}
use Rattle.op.specs.MessageType.{kind_value, is_response}
use Rattle.op.specs.Metadata.{metadata_cmp}
use Rattle.op.specs.OpCode.{op_number, op_value}
use Rattle.op.specs.ResponseCode.{code_number, code_value}
use Rattle.op.specs.declared.header.Header.{Header}
use Rattle.op.specs.declared.header.metadata.Metadata.{Metadata}
use Rattle.op.specs.declared.header.header_counts.HeaderCounts.{HeaderCounts}

-- what twelve bytes say, bit 0x40 of byte 3 left out
pub record RawHeader : Type 0 where
  pub id : ℕ
  pub response : Bool
  pub opcode : ℕ
  pub authoritative : Bool
  pub truncation : Bool
  pub recursion_desired : Bool
  pub recursion_available : Bool
  pub authentic_data : Bool
  pub checking_disabled : Bool
  pub code : ℕ
  pub counts : HeaderCounts

-- whether the bit of this weight is set in a byte
abbrev pub bit_of : ℕ → ℕ → Bool
bit_of weight b = b / weight % 2 == 1

-- These fields stand in B from i up to i + 12. Of byte i + 3 the bit 0x40 may be anything.
pub record IsRawHeaderAt (B : List ℕ) (i : ℕ) (r : RawHeader) : Type 0 where
  pub id : IsNumberAt w16 B i r.id
  pub high : ℕ
  pub high_stands : ByteAt anywhere B (i + 2) high
  pub response : r.response ≡ bit_of 128 high
  pub opcode : r.opcode ≡ high / 8 % 16
  pub authoritative : r.authoritative ≡ bit_of 4 high
  pub truncation : r.truncation ≡ bit_of 2 high
  pub recursion_desired : r.recursion_desired ≡ bit_of 1 high
  pub low : ℕ
  pub low_stands : ByteAt anywhere B (i + 3) low
  pub recursion_available : r.recursion_available ≡ bit_of 128 low
  pub authentic_data : r.authentic_data ≡ bit_of 32 low
  pub checking_disabled : r.checking_disabled ≡ bit_of 16 low
  pub code : r.code ≡ low % 16
  pub queries : IsNumberAt w16 B (i + 4) r.counts.queries
  pub answers : IsNumberAt w16 B (i + 6) r.counts.answers
  pub authorities : IsNumberAt w16 B (i + 8) r.counts.authorities
  pub additionals : IsNumberAt w16 B (i + 10) r.counts.additionals

-- what fields are read as, the counts aside
abbrev pub metadata_value : RawHeader → Metadata
metadata_value r = record {
  id = r.id;
  message_type = kind_value r.response;
  op_code = op_value r.opcode;
  authoritative = r.authoritative;
  truncation = r.truncation;
  recursion_desired = r.recursion_desired;
  recursion_available = r.recursion_available;
  authentic_data = r.authentic_data;
  checking_disabled = r.checking_disabled;
  response_code = code_value r.code;
}

-- the header that fields are read as
abbrev pub header_value : RawHeader → Header
header_value r = record { metadata = metadata_value r; counts = r.counts }

-- The fields that a header is written as: the low four bits of the code; of the opcode's number the
-- low four bits, and the fifth or-ed into QR.
abbrev pub raw_header : Header → RawHeader
raw_header h = record {
  id = h.metadata.id;
  response = is_response h.metadata.message_type || bit_of 16 (op_number h.metadata.op_code);
  opcode = op_number h.metadata.op_code % 16;
  authoritative = h.metadata.authoritative;
  truncation = h.metadata.truncation;
  recursion_desired = h.metadata.recursion_desired;
  recursion_available = h.metadata.recursion_available;
  authentic_data = h.metadata.authentic_data;
  checking_disabled = h.metadata.checking_disabled;
  code = code_number h.metadata.response_code % 16;
  counts = h.counts;
}

-- the weight of a bit that is set, and else nothing
abbrev pub weighed : ℕ → Bool → ℕ
weighed weight true = weight
weighed weight false = 0

-- the sum of the bits of byte 2: QR, the opcode, AA, TC and RD
abbrev pub high_byte : Bool → ℕ → Bool → Bool → Bool → ℕ
high_byte response opcode authoritative truncation recursion_desired =
    weighed 128 response +
    (8 * opcode + (weighed 4 authoritative + (weighed 2 truncation + weighed 1 recursion_desired)))

-- the sum of the bits of byte 3: RA, AD, CD and the code, with bit 0x40 clear
abbrev pub low_byte : Bool → Bool → Bool → ℕ → ℕ
low_byte recursion_available authentic_data checking_disabled code =
    weighed 128 recursion_available +
    (weighed 32 authentic_data + (weighed 16 checking_disabled + code))

-- the bytes that fields are written as
abbrev pub header_bytes : RawHeader → List ℕ
header_bytes r =
    to_be_bytes w16 r.id
    ++ (high_byte r.response r.opcode r.authoritative r.truncation r.recursion_desired
    ∷ low_byte r.recursion_available r.authentic_data r.checking_disabled r.code ∷ [])
    ++ to_be_bytes w16 r.counts.queries ++ to_be_bytes w16 r.counts.answers
    ++ to_be_bytes w16 r.counts.authorities ++ to_be_bytes w16 r.counts.additionals

-- the numbers of a header have two bytes
pub record IsNarrow (id : ℕ) (counts : HeaderCounts) : Type 0 where
  pub identifier : id < 2 ^ 16
  pub queries : counts.queries < 2 ^ 16
  pub answers : counts.answers < 2 ^ 16
  pub authorities : counts.authorities < 2 ^ 16
  pub additionals : counts.additionals < 2 ^ 16

-- a header word stands at i
pub record IsHeaderAt (B : List ℕ) (i : ℕ) (h : Header) : Type 0 where
  pub raw : RawHeader
  pub word : IsRawHeaderAt B i raw
  pub value : h ≡ header_value raw

-- the word that a header is written as
abbrev pub HeaderWord : Header → List ℕ → ℕ → ℕ → Type 0
HeaderWord h B i e = IsRawHeaderAt B i (raw_header h) × (e ≡ i + 12)

-- ---- reading

-- what an id and the two bytes of codes and flags after it are read as
abbrev pub metadata_of_bytes : ℕ → ℕ → ℕ → Metadata
metadata_of_bytes id high low = record {
  id = id;
  message_type = kind_value (bit_of 128 high);
  op_code = op_value (high / 8 % 16);
  authoritative = bit_of 4 high;
  truncation = bit_of 2 high;
  recursion_desired = bit_of 1 high;
  recursion_available = bit_of 128 low;
  authentic_data = bit_of 32 low;
  checking_disabled = bit_of 16 low;
  response_code = code_value (low % 16);
}

-- the header that stands at i, or its first fault
unfoldable pub header_at : List ℕ → ℕ → Read Header
header_at bytes i = do
  id ← number_at w16 bytes i
  high ← byte_at bytes id.1
  low ← byte_at bytes high.1
  queries ← number_at w16 bytes low.1
  answers ← number_at w16 bytes queries.1
  authorities ← number_at w16 bytes answers.1
  additionals ← number_at w16 bytes authorities.1
  Ok (
    record {
      metadata = metadata_of_bytes id.0 high.0 low.0;
      counts = record {
        queries = queries.0;
        answers = answers.0;
        authorities = authorities.0;
        additionals = additionals.0;
      };
    },
    additionals.1,
  )

-- ---- order

-- by metadata, then counts
abbrev pub header_cmp : Header → Header → Ordering
header_cmp = then_cmp (on (λ h. h.metadata) metadata_cmp) (on (λ h. h.counts) counts_cmp)
