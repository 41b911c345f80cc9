-- The fields of a header as numbers.
use Rattle.std.specs.Prelude.{ℕ, List}
use Rattle.op.specs.Header.{header_at}
use Rattle.op.specs.MessageType.{is_response}
use Rattle.op.specs.OpCode.{op_number}
use Rattle.op.specs.ResponseCode.{code_low}
use Rattle.op.specs.declared.header.Header.{Header}
use Rattle.tasks.specs.Asked.{Asked, read}
use Rattle.tasks.specs.declared.header.HeaderNumbers.{HeaderNumbers}

-- the header that the bytes begin with
abbrev pub first_header : List ℕ → Asked Header
first_header bytes = read (header_at bytes 0)

-- the fields of a header as numbers
abbrev pub numbers_of : Header → HeaderNumbers
numbers_of h = record {
  id = h.metadata.id;
  queries = h.counts.queries;
  answers = h.counts.answers;
  authorities = h.counts.authorities;
  additionals = h.counts.additionals;
  opcode = op_number h.metadata.op_code;
  rcode = code_low h.metadata.response_code;
  response = is_response h.metadata.message_type;
  authoritative = h.metadata.authoritative;
  truncated = h.metadata.truncation;
  recursion_desired = h.metadata.recursion_desired;
  recursion_available = h.metadata.recursion_available;
  authentic_data = h.metadata.authentic_data;
  checking_disabled = h.metadata.checking_disabled;
}
