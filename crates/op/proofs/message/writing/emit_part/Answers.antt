use Rattle.op.proofs.message.writing.emit_part.Goals as goal

pub returns-clause-keeps : goal.returns-clause-keeps
returns-clause-keeps g c = c.emit.ensures.keeps

pub returns-clause-run : goal.returns-clause-run
returns-clause-run g c = (c.emit.result, c.emit.ensures.emits, c.count_items.ensures)
