-- Messages that the wire can carry (RFC 1035, 4.1; RFC 2136, 2.4 and 2.5; RFC 6891, 6.1; RFC 8945, 5.1).
use Rattle.base.specs.declared.limits.TheConstants.{MIN_PAYLOAD}
use Rattle.std.specs.Prelude.{◌≡◌, ℕ, All, ◌+◌, ◌/◌, ◌%◌, ◌<◌, ◌≤◌, ◌||◌, List, [], ◌∷◌, Option, Some, None, Bool}
use Rattle.std.specs.Prelude.{false, true}
use Rattle.std.specs.Option.{option_map}
use Rattle.base_data.specs.declared.rdata.RData.{RData}
use Rattle.base_data.specs.declared.rdata.RData.TheVariants as kinds
use Rattle.rr.specs.Record.{FitsRecord, with_data}
use Rattle.rr.specs.declared.record.Record.{Record}
use Rattle.op.specs.EdnsRecord.{edns_record}
use Rattle.op.specs.Message.{MessageValue}
use Rattle.op.specs.OpCode.{op_number, op_value}
use Rattle.op.specs.Query.{FitsQuery, plain_query}
use Rattle.op.specs.ResponseCode.{code_number}
use Rattle.op.specs.Section.{HasNeededData, is_additional, is_opt, is_signature}
use Rattle.op.specs.declared.edns.Edns.{Edns}
use Rattle.op.specs.declared.op_code.OpCode.{OpCode}
use Rattle.op.specs.declared.query.Query.{Query}
use Rattle.op.specs.declared.response_code.ResponseCode.{ResponseCode}

-- a list of one or none
abbrev pub as_list : {X : Type 0} → Option X → List X
as_list None = []
as_list (Some x) = x ∷ []

-- a signature's record as any record
abbrev pub signature_record : Record (List ℕ) → Record RData
signature_record r = with_data kinds.TSIG r

-- the record of a signature, if there is one
abbrev pub signature_records : Option (Record (List ℕ)) → List (Record RData)
signature_records signature = as_list (option_map signature_record signature)

-- EDNS with the high bits of a code in place of its own (RFC 6891, 6.1.3)
abbrev pub with_high_bits : ResponseCode → Edns → Edns
with_high_bits code e = record e { rcode_high = code_number code / 16 % 256 }

-- the OPT record that is written of EDNS, if there is EDNS: it has the high bits of the message's code
abbrev pub opt_records : ResponseCode → Option Edns → List (Record RData)
opt_records code edns = as_list (option_map (λ e. edns_record (with_high_bits code e)) edns)

-- Whether a record stands elsewhere than among additionals, or than among answers or authorities: OPT, SIG and TSIG
-- stand among additionals alone, and EDNS and signatures by themselves after those.
abbrev pub stands_elsewhere : Bool → Record RData → Bool
stands_elsewhere true r = is_opt r || is_signature r
stands_elsewhere false r = is_additional r

-- A record of the additionals, or of another section, that fits. If its data is empty, the message is an Update.
pub record FitsIn (among_additionals : Bool) (op : OpCode) (r : Record RData) : Type 0 where
  pub fits : FitsRecord r
  pub given : HasNeededData op r
  pub placed : stands_elsewhere among_additionals r ≡ false

-- a record of answers or authorities that fits
abbrev pub FitsPlain : OpCode → Record RData → Type 0
FitsPlain = FitsIn false

-- an additional record that fits
abbrev pub FitsAdditional : OpCode → Record RData → Type 0
FitsAdditional = FitsIn true

-- EDNS that fits: its payload size is read as it is, and its flags have no 16th bit
pub record FitsEdns (e : Edns) : Type 0 where
  pub payload : MIN_PAYLOAD ≤ e.max_payload
  pub version : e.version < 256
  pub z : e.flags.z < 32768

-- A message that can stand on the wire and is read as it was, but for its code's high bits without EDNS.
pub record Fits (m : MessageValue) : Type 0 where
  pub op_code : op_number m.metadata.op_code < 16
  pub op_code_reads : op_value (op_number m.metadata.op_code) ≡ m.metadata.op_code
  pub queries : All FitsQuery m.queries
  pub answers : All (FitsPlain m.metadata.op_code) m.answers
  pub authorities : All (FitsPlain m.metadata.op_code) m.authorities
  pub additionals : All (FitsAdditional m.metadata.op_code) m.additionals
  pub edns : All FitsEdns (as_list m.edns)
  pub signature : All (λ r. FitsRecord (signature_record r)) (as_list m.signature)

-- the bytes of questions without compression
abbrev pub plain_queries : List Query → ℕ
plain_queries [] = 0
plain_queries (q ∷ qs) = plain_query q + plain_queries qs

-- room for the header and the questions
abbrev pub HasRoom : MessageValue → ℕ → Type 0
HasRoom m limit = 12 + plain_queries m.queries ≤ limit
