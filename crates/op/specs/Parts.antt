-- What calls make of the parts of a message.
use Rattle.base.specs.declared.limits.TheConstants.{MIN_PAYLOAD}
use Rattle.std.specs.Prelude.{◌≡◌, ℕ, Bool, true, false, not, ◌||◌, ◌++◌, List, [], ◌∷◌, filter, max, Option, Some}
use Rattle.std.specs.Prelude.{None, Result, Ok, Err}
use Rattle.std.specs.Iterator.{YieldsThen}
use Rattle.base.specs.RecordType.{is_dnssec_type, same_type}
use Rattle.base.specs.declared.record_type.RecordType.{RecordType}
use Rattle.base_data.specs.Kinds.{type_of_data}
use Rattle.base_data.specs.declared.rdata.RData.{RData}
use Rattle.rr.specs.declared.record.Record.{Record}
use Rattle.op.specs.Message.{MessageValue, empty_message}
use Rattle.op.specs.declared.edns.Edns.{Edns}
use Rattle.op.specs.declared.query.Query.{Query}

-- the records of the three sections, in order
abbrev pub all_records : MessageValue → List (Record RData)
all_records m = m.answers ++ (m.authorities ++ m.additionals)

-- the message without records in its sections
abbrev pub without_sections : MessageValue → MessageValue
without_sections m = record m { answers = []; authorities = []; additionals = [] }

-- the message cut to what a client must have: metadata with TC, the questions and EDNS (RFC 2181, 9)
abbrev pub truncated : MessageValue → MessageValue
truncated m =
    record (empty_message (record m.metadata { truncation = true })) {
      queries = m.queries;
      edns = m.edns;
    }

-- whether a record is sent also to a client without DNSSEC: of the asked type, or no DNSSEC type (RFC 4035, 3.2.1)
abbrev pub is_for_all : RecordType → Record RData → Bool
is_for_all asked r = same_type (type_of_data r.rdata) asked
    || not (is_dnssec_type (type_of_data r.rdata))

-- the message without records of DNSSEC, but for those of the type that the first question asks for
abbrev pub stripped_by : List Query → MessageValue → MessageValue
stripped_by [] m = m
stripped_by (q ∷ qs) m = record m {
  answers = filter (is_for_all q.query_type) m.answers;
  authorities = filter (is_for_all q.query_type) m.authorities;
  additionals = filter (is_for_all q.query_type) m.additionals;
}

-- what is sent to a client that takes records of DNSSEC, or doesn't
abbrev pub stripped : Bool → MessageValue → MessageValue
stripped true m = m
stripped false m = stripped_by m.queries m

-- the bytes of the largest answer that the sender takes: 512 without EDNS, and at least that with it (RFC 6891, 6.2.3
-- and 6.2.5)
abbrev pub payload_taken : Option Edns → ℕ
payload_taken None = MIN_PAYLOAD
payload_taken (Some e) = max MIN_PAYLOAD e.max_payload

-- the version of EDNS, 0 without it
abbrev pub edns_version : Option Edns → ℕ
edns_version None = 0
edns_version (Some e) = e.version

-- What an iterator gave was added after a list: all of it; or what came before an item for which there was no memory.
abbrev pub AddsGiven : {S T U E : Type 0} → (S → Option T → S → Type 0) → S → List T → List T
    → Result U E → Type 0
AddsGiven {S = S} {T = T} steps s old new (Ok _) = (xs : List T) × (t : S)
    × YieldsThen steps s xs None t × (new ≡ old ++ xs)
AddsGiven {S = S} {T = T} steps s old new (Err _) = (xs : List T) × (x : T) × (t : S)
    × YieldsThen steps s xs (Some x) t × (new ≡ old ++ xs)
