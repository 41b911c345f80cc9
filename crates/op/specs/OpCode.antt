-- The operation codes (RFC 1035, 4.1.1; RFC 1996, 3; RFC 2136, 2.2).
use Rattle.std.specs.Prelude.{ℕ, List, ◌++◌, ◌==◌, codes, if◌then◌else◌}
use Rattle.std.specs.Fmt.{decimal}
use Rattle.std.specs.Ordering.{nat_cmp, on, then_cmp}
use Rattle.std.specs.declared.cmp.Ordering.{Ordering}
use Rattle.op.specs.declared.op_code.OpCode.{OpCode}
use Rattle.op.specs.declared.op_code.OpCode.TheVariants as op

-- the number that the header carries
abbrev pub op_number : OpCode → ℕ
op_number op.Query = 0
op_number op.Status = 2
op_number op.Notify = 4
op_number op.Update = 5
op_number (op.Unknown number) = number

-- the operation of a number
abbrev pub op_value : ℕ → OpCode
op_value number =
    if number == 0 then op.Query
    else (if number == 2 then op.Status
    else (if number == 4 then op.Notify
    else (if number == 5 then op.Update
    else op.Unknown number)))

-- the name of an opcode, with its number where it has no name
abbrev pub op_text : OpCode → List ℕ
op_text op.Query = codes "QUERY"
op_text op.Status = codes "STATUS"
op_text op.Notify = codes "NOTIFY"
op_text op.Update = codes "UPDATE"
op_text (op.Unknown number) = codes "Unknown opcode (" ++ decimal number ++ codes ")"

-- the place in the list of the operations, the unknown ones last
abbrev pub op_place : OpCode → ℕ
op_place op.Query = 0
op_place op.Status = 1
op_place op.Notify = 2
op_place op.Update = 3
op_place (op.Unknown number) = 4

-- by place, and two unknown operations by number
abbrev pub op_cmp : OpCode → OpCode → Ordering
op_cmp = then_cmp (on op_place nat_cmp) (on op_number nat_cmp)
