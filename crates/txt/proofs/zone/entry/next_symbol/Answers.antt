use Rattle.txt.proofs.Cuts.{is_fault, stood_first}
use Rattle.txt.proofs.zone.entry.next_symbol.Goals as goal

pub returns-in-Ok-None : goal.returns-in-Ok-None
returns-in-Ok-None c = rw c.in-Ok-None.field-0-is at
    (rw c.in-Ok-None.is at (stood_first c.next_ref.result c.args.lexer.now c.next_ref.new.self
    c.next_ref.ensures.value c.next_ref.ensures.stays))

pub returns-in-Ok-Some : goal.returns-in-Ok-Some
returns-in-Ok-Some c = rw c.in-Ok-Some.field-0-is at
    (rw c.in-Ok-Some.is at (stood_first c.next_ref.result c.args.lexer.now c.next_ref.new.self
    c.next_ref.ensures.value c.next_ref.ensures.stays))

pub returns-in_default : goal.returns-in_default
returns-in_default c =
    is_fault c.in-Err.error c.in_default.not-Memory
    (rw c.in-Err.is at (stood_first c.next_ref.result c.args.lexer.now c.next_ref.new.self
    c.next_ref.ensures.value c.next_ref.ensures.stays))
