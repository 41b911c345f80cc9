-- The header without its counts (RFC 1035, 4.1.1).
use Rattle.std.specs.Prelude.{ℕ, false, List, [], ◌∷◌}
use Rattle.std.specs.Fmt.{decimal}
use Rattle.std.specs.List.{join_with_byte}
use Rattle.std.specs.Ordering.{nat_cmp, bool_cmp, on, then_cmp}
use Rattle.std.specs.declared.cmp.Ordering.{Ordering}
use Rattle.op.specs.Flags.{flags_text}
use Rattle.op.specs.MessageType.{message_type_text, message_type_cmp}
use Rattle.op.specs.OpCode.{op_text, op_cmp}
use Rattle.op.specs.ResponseCode.{code_label, code_cmp}
use Rattle.op.specs.declared.header.flags.Flags.{Flags}
use Rattle.op.specs.declared.header.message_type.MessageType.{MessageType}
use Rattle.op.specs.declared.header.message_type.MessageType.TheVariants as kind
use Rattle.op.specs.declared.header.metadata.Metadata.{Metadata}
use Rattle.op.specs.declared.op_code.OpCode.{OpCode}
use Rattle.op.specs.declared.response_code.ResponseCode.TheVariants as code

-- without any flag, and without an error
abbrev pub plain_metadata : ℕ → MessageType → OpCode → Metadata
plain_metadata id message_type op_code = record {
  id = id;
  message_type = message_type;
  op_code = op_code;
  authoritative = false;
  truncation = false;
  recursion_desired = false;
  recursion_available = false;
  authentic_data = false;
  checking_disabled = false;
  response_code = code.NoError;
}

-- what a response takes over from its request: id, operation, RD and CD (RFC 6895, 2)
abbrev pub response_metadata : Metadata → Metadata
response_metadata request = record (plain_metadata request.id kind.Response request.op_code) {
  recursion_desired = request.recursion_desired;
  checking_disabled = request.checking_disabled;
}

-- the six flags alone
abbrev pub metadata_flags : Metadata → Flags
metadata_flags metadata = record {
  authoritative = metadata.authoritative;
  truncation = metadata.truncation;
  recursion_desired = metadata.recursion_desired;
  recursion_available = metadata.recursion_available;
  authentic_data = metadata.authentic_data;
  checking_disabled = metadata.checking_disabled;
}

-- id, type, flags, code and operation, with a colon between each two
abbrev pub metadata_text : Metadata → List ℕ
metadata_text metadata = join_with_byte 58
    (decimal metadata.id ∷ message_type_text metadata.message_type
    ∷ flags_text (metadata_flags metadata)
    ∷ code_label metadata.response_code ∷ op_text metadata.op_code ∷ [])

-- by the fields in turn
abbrev pub metadata_cmp : Metadata → Metadata → Ordering
metadata_cmp =
    then_cmp (on (λ m. m.id) nat_cmp)
    (then_cmp (on (λ m. m.message_type) message_type_cmp) (then_cmp (on (λ m. m.op_code) op_cmp)
    (then_cmp (on (λ m. m.authoritative) bool_cmp) (then_cmp (on (λ m. m.truncation) bool_cmp)
    (then_cmp (on (λ m. m.recursion_desired) bool_cmp)
    (then_cmp (on (λ m. m.recursion_available) bool_cmp)
    (then_cmp (on (λ m. m.authentic_data) bool_cmp)
    (then_cmp (on (λ m. m.checking_disabled) bool_cmp)
    (on (λ m. m.response_code) code_cmp)))))))))
