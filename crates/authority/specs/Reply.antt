-- Which message a server answers to a message (RFC 1035, 4.1.1; RFC 6891, 6.1; RFC 9619).
use Rattle.authority.specs.Answer.{AnswerValue, answer}
use Rattle.authority.specs.declared.answer.TheConstants.{MAX_ALIASES}
use Rattle.base.specs.names.Parents.{is_within}
use Rattle.base.specs.RrKey.{key_of}
use Rattle.base.specs.declared.record_type.RecordType.TheVariants as types
use Rattle.op.specs.Edns.{new_edns}
use Rattle.op.specs.Message.{MessageValue}
use Rattle.op.specs.MessageType.{is_response}
use Rattle.op.specs.Metadata.{response_metadata}
use Rattle.op.specs.Parts.{edns_version}
use Rattle.op.specs.declared.edns.Edns.{Edns}
use Rattle.op.specs.declared.op_code.OpCode.TheVariants as op_codes
use Rattle.op.specs.declared.op_code.OpCode.{OpCode}
use Rattle.op.specs.declared.query.Query.{Query}
use Rattle.op.specs.declared.response_code.ResponseCode.TheVariants.{BADVERS, FormErr, NotImp, Refused, ServFail}
use Rattle.op.specs.declared.response_code.ResponseCode.{ResponseCode}
use Rattle.op_use.specs.Server.{StepCode, and_then, is_any, is_meta, unless}
use Rattle.op_use.specs.Zone.{Zone, has_set}
use Rattle.rr.specs.RecordOrder.{same_class}
use Rattle.std.specs.Option.{option_map}
use Rattle.std.specs.Prelude.{Bool, List, None, Option, Some, [], false, if◌then◌else◌, not, true, ◌&&◌, ◌==◌, ◌||◌}
use Rattle.std.specs.Prelude.{◌∷◌}

-- the operation of a query
abbrev pub is_query : OpCode → Bool
is_query op_codes.Query = true
is_query _ = false

-- what a question is refused with, if it is: of another class; of a type that no record has, but for ANY (RFC 6895,
-- 3.1); outside the zone; of a zone without SOA
abbrev pub question_refusal : Zone → Query → StepCode
question_refusal z q =
    and_then (unless (same_class q.query_class z.class && not q.mdns_unicast_response) Refused)
    (and_then (unless (is_any q.query_type || not (is_meta q.query_type)) NotImp)
    (and_then (unless (is_within z.origin q.name) Refused)
    (unless (has_set z (key_of z.origin types.SOA)) ServFail)))

-- the answer that is a code alone
abbrev pub only_code : ResponseCode → AnswerValue
only_code code = record { code = code; authoritative = false; answers = []; authorities = []; additionals = [] }

-- a code alone, or else an answer
abbrev pub refused_or : StepCode → AnswerValue → AnswerValue
refused_or (Some code) a = only_code code
refused_or None a = a

-- the answer to questions, of which there is to be one (RFC 9619)
abbrev pub answer_to : Zone → List Query → AnswerValue
answer_to z (q ∷ []) = refused_or (question_refusal z q) (answer z q.query_type MAX_ALIASES [] q.name)
answer_to z _ = only_code FormErr

-- what a query is refused with before its question is looked at: for its version of EDNS (RFC 6891, 6.1.3), or its
-- operation
abbrev pub header_refusal : MessageValue → StepCode
header_refusal m =
    and_then (unless (edns_version m.edns == 0) BADVERS) (unless (is_query m.metadata.op_code) NotImp)

-- the one question; of several none
abbrev pub one_question : List Query → List Query
one_question (q ∷ []) = q ∷ []
one_question _ = []

-- EDNS of a response: version 0, with DO as asked (RFC 6891, 6.1.1; RFC 3225, 3)
abbrev pub edns_of_reply : Edns → Edns
edns_of_reply e = record new_edns { flags = record new_edns.flags { dnssec_ok = e.flags.dnssec_ok } }

-- an answer as a message: id, operation, RD and CD of the query (RFC 6895, 2), its question, EDNS if it has EDNS
abbrev pub framed : MessageValue → AnswerValue → MessageValue
framed m a = record {
  metadata = record (response_metadata m.metadata) { authoritative = a.authoritative; response_code = a.code };
  queries = one_question m.queries;
  answers = a.answers;
  authorities = a.authorities;
  additionals = a.additionals;
  edns = option_map edns_of_reply m.edns;
  signature = None;
}

-- the reply to a message; none to a response
abbrev pub reply : Zone → MessageValue → Option MessageValue
reply z m = if is_response m.metadata.message_type then None
    else Some (framed m (refused_or (header_refusal m) (answer_to z m.queries)))
