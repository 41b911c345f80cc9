-- What the derived orders answer.
use Rattle.std.proofs.Common.{◌≡◌, ℕ, Option, Some, rules}
use Rattle.std.specs.Ordering.{nat_cmp}
use Rattle.std.specs.declared.cmp.Ordering.{Ordering}
use Rattle.std.specs.declared.cmp.Ordering.TheVariants.{Equal}
use Rattle.std.specs.Cmp.{Some-then}
use Rattle.op.specs.Header.{header_cmp}
use Rattle.op.specs.MessageType.{message_type_cmp}
use Rattle.op.specs.Metadata.{metadata_cmp}
use Rattle.op.specs.OpCode.{op_cmp, op_number, op_place}
use Rattle.op.specs.ResponseCode.{code_cmp, code_number, code_place}
use Rattle.op.specs.contracts.header.HeaderPartialOrd.TheImpl as header_order
use Rattle.op.specs.contracts.header.metadata.MetadataPartialOrd.TheImpl as metadata_order
use Rattle.op.specs.contracts.header.message_type.MessageTypePartialOrd.TheImpl as message_type_order
use Rattle.op.specs.contracts.op_code.OpCodePartialOrd.TheImpl as op_order
use Rattle.op.specs.contracts.response_code.ResponseCodePartialOrd.TheImpl as code_order
use Rattle.op.proofs.equality.VariantLemmas.{five, variants_ordered}
use Rattle.op.specs.contracts.op_code.OpCode as op_codes
use Rattle.op.specs.contracts.response_code.ResponseCode as response_codes
use Rattle.op.specs.declared.header.Header.{Header}
use Rattle.op.specs.declared.header.metadata.Metadata.{Metadata}
use Rattle.op.specs.declared.header.message_type.MessageType.{MessageType}
use Rattle.op.specs.declared.op_code.OpCode.{OpCode}
use Rattle.op.specs.declared.response_code.ResponseCode.{ResponseCode}

-- two values of a variant without fields, and two of one with a number
abbrev same : Unit {0} → Unit {0} → Option Ordering
same x y = Some Equal

abbrev by_number : ℕ × Unit {0} → ℕ × Unit {0} → Option Ordering
by_number x y = Some (nat_cmp x.0 y.0)

pub op_order-is : (a b : OpCode) → (op_order.ghosts).partial_cmp a b ≡ Some (op_cmp a b)
op_order-is = variants_ordered op_codes.enum op_place op_number (same, (same, (same, (same, (by_number, tt)))))
    (search rules) (search rules)

pub code_order-is : (a b : ResponseCode) → (code_order.ghosts).partial_cmp a b ≡ Some (code_cmp a b)
code_order-is = variants_ordered response_codes.enum code_place code_number
    (five same (five same (five same (five same (by_number, tt))))) (search rules) (search rules)

pub message_type_order-is : (a b : MessageType)
    → (message_type_order.ghosts).partial_cmp a b ≡ Some (message_type_cmp a b)
message_type_order-is = search rules

pub metadata_order-is : (a b : Metadata) → (metadata_order.ghosts).partial_cmp a b ≡ Some (metadata_cmp a b)
metadata_order-is a b = simp (op_order-is, code_order-is, message_type_order-is, Some-then)

pub header_order-is : (a b : Header) → (header_order.ghosts).partial_cmp a b ≡ Some (header_cmp a b)
header_order-is a b = simp (metadata_order-is, Some-then)
