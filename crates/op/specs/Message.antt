-- The message word, and reading a message (RFC 1035, 4.1; RFC 6891, 6.1.3; RFC 8945, 5.1).
use Rattle.std.specs.Prelude.{◌≡◌, ℕ, ◌+◌, All, List, [], length, Option, Some, None, Ok}
use Rattle.std.specs.Option.{option_map}
use Rattle.base.specs.reading.Many.{many_at}
use Rattle.base.specs.reading.Reading.{Read, ◌>>=◌}
use Rattle.base.specs.Words.{BackToBack}
use Rattle.base_data.specs.declared.rdata.RData.{RData}
use Rattle.rr.specs.Record.{IsRecordAt}
use Rattle.rr.specs.declared.record.Record.{Record}
use Rattle.op.specs.Header.{IsHeaderAt, header_at}
use Rattle.op.specs.Query.{IsQueryAt, query_at}
use Rattle.op.specs.ResponseCode.{code_from, code_low}
use Rattle.op.specs.Section.{AtMostOneOpt, EndsWithSignature, HasNeededData, IsPlain, SectionValue, sections_at}
use Rattle.op.specs.Section.{section_of}
use Rattle.op.specs.declared.edns.Edns.{Edns}
use Rattle.op.specs.declared.header.Header.{Header}
use Rattle.op.specs.declared.header.header_counts.HeaderCounts.{HeaderCounts}
use Rattle.op.specs.declared.header.metadata.Metadata.{Metadata}
use Rattle.op.specs.declared.message.Message.{Message}
use Rattle.op.specs.declared.query.Query.{Query}

-- a message as contracts see it: its fields, lists without their memory
pub record MessageValue : Type 0 where
  pub metadata : Metadata
  pub queries : List Query
  pub answers : List (Record RData)
  pub authorities : List (Record RData)
  pub additionals : List (Record RData)
  pub edns : Option Edns
  pub signature : Option (Record (List ℕ))

-- a message as its fields, with lists for vectors
abbrev pub message_value : Message → MessageValue
message_value m = record {
  metadata = m.metadata;
  queries = m.queries.items;
  answers = m.answers.items;
  authorities = m.authorities.items;
  additionals = m.additionals.items;
  edns = m.edns;
  signature = option_map (λ s. s.value) m.signature;
}

-- a message with nothing after its header
abbrev pub empty_message : Metadata → MessageValue
empty_message metadata =
    record {
      metadata = metadata;
      queries = [];
      answers = [];
      authorities = [];
      additionals = [];
      edns = None;
      signature = None;
    }

-- a message with nothing after its questions
abbrev pub asking : Metadata → List Query → MessageValue
asking metadata queries = record (empty_message metadata) { queries = queries }

-- the code of a header with the eight bits of EDNS above it (RFC 6891, 6.1.3)
abbrev pub high_code : Option Edns → Metadata → Metadata
high_code None metadata = metadata
high_code (Some edns) metadata =
    record metadata { response_code = code_from edns.rcode_high (code_low metadata.response_code) }

-- the message of a header, questions, answers, authorities, and what stands among additionals
abbrev pub message_of : Metadata → List Query → List (Record RData) → List (Record RData)
    → SectionValue → MessageValue
message_of metadata queries answers authorities additionals = record {
  metadata = high_code additionals.edns metadata;
  queries = queries;
  answers = answers;
  authorities = authorities;
  additionals = additionals.records;
  edns = additionals.edns;
  signature = additionals.signature;
}

-- A message word of m stands in B from i up to e.
pub record IsMessageAt (B : List ℕ) (i : ℕ) (m : MessageValue) (e : ℕ) : Type 0 where
  -- the words, back to back
  pub header : Header
  pub queries_end : ℕ
  pub answers_end : ℕ
  pub authorities_end : ℕ
  pub answers : List (Record RData)
  pub authorities : List (Record RData)
  pub additionals : List (Record RData)
  pub header_stands : IsHeaderAt B i header
  pub queries_stand : BackToBack (IsQueryAt B) (i + 12) m.queries queries_end
  pub answers_stand : BackToBack (IsRecordAt B) queries_end answers answers_end
  pub authorities_stand : BackToBack (IsRecordAt B) answers_end authorities authorities_end
  pub additionals_stand : BackToBack (IsRecordAt B) authorities_end additionals e
  -- the header counts what stands
  pub counts : header.counts
      ≡ record {
        queries = length m.queries;
        answers = length answers;
        authorities = length authorities;
        additionals = length additionals;
      }
  -- empty data, and the places of OPT, SIG and TSIG
  pub answers_plain : All (IsPlain header.metadata.op_code) answers
  pub authorities_plain : All (IsPlain header.metadata.op_code) authorities
  pub additionals_given : All (HasNeededData header.metadata.op_code) additionals
  pub signature_last : EndsWithSignature additionals
  pub one_opt : AtMostOneOpt additionals
  -- the message
  pub message : m
      ≡ message_of header.metadata m.queries answers authorities (section_of additionals)

-- what stands after a header and questions, as a message with these
abbrev pub rest_at : Metadata → List Query → HeaderCounts → List ℕ → ℕ → Read MessageValue
rest_at metadata queries counts bytes i = do
  sections ← sections_at metadata.op_code counts bytes i
  Ok (
    message_of metadata queries sections.0.answers.records sections.0.authorities.records
        sections.0.additionals,
    sections.1,
  )

-- the message that stands at i, or its first fault: header, questions, answers, authorities, additionals
unfoldable pub message_at : List ℕ → ℕ → Read MessageValue
message_at bytes i = do
  header ← header_at bytes i
  queries ← many_at query_at header.0.counts.queries bytes header.1
  sections ← sections_at header.0.metadata.op_code header.0.counts bytes queries.1
  Ok (
    message_of header.0.metadata queries.0 sections.0.answers.records
        sections.0.authorities.records sections.0.additionals,
    sections.1,
  )
