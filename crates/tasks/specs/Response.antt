-- What a response says.
use Rattle.std.specs.Prelude.{ℕ, List, Ok, Err, if◌then◌else◌, is_some, unwrap_or}
use Rattle.op.specs.Message.{MessageValue}
use Rattle.op.specs.MessageType.{is_response}
use Rattle.op.specs.Parts.{payload_taken}
use Rattle.op_use.specs.Responses.{contains_answer, negative_ttl}
use Rattle.tasks.specs.Asked.{Asked, ◌>>=◌}
use Rattle.tasks.specs.Message.{message_of}
use Rattle.tasks.specs.declared.response.ResponseFacts.{ResponseFacts}

-- a message that is a response; a query is refused with 16
abbrev pub responding : MessageValue → Asked MessageValue
responding m = if is_response m.metadata.message_type then Ok m else Err 16

-- the response that the bytes begin with
abbrev pub response_of : List ℕ → Asked MessageValue
response_of bytes = message_of bytes >>= λ m. responding m

-- what it says, and 1 where it answers some question (RFC 2308, 5; RFC 6891, 6.2.3)
abbrev pub facts_of : MessageValue → ResponseFacts × ℕ
facts_of m = (
  record {
    negative_ttl = unwrap_or (negative_ttl m) 0;
    max_payload = payload_taken m.edns;
    has_negative_ttl = is_some (negative_ttl m);
  },
  if contains_answer m then 1 else 0,
)

-- the same of the bytes of a response
abbrev pub found_response : List ℕ → Asked (ResponseFacts × ℕ)
found_response bytes = response_of bytes >>= λ m. Ok (facts_of m)
