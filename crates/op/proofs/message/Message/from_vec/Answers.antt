use Rattle.std.proofs.Common.{◌≡◌, ◌⊎◌, rules, subst}
use Rattle.std.specs.Prelude.{IfErr}
use Rattle.base.specs.declared.error.decode_error.DecodeError.TheVariants as faults
use Rattle.base.specs.reading.Reader.{Reader}
use Rattle.op.specs.Fault.{IsMessageFault}
use Rattle.op.proofs.reading.BufferLemmas.{begins, begins_with, read_fits}
use Rattle.op.proofs.message.Message.from_vec.Goals as goal

pub returns-clause-found : goal.returns-clause-found
returns-clause-found c = begins c.args.buffer.now c.new.result c.read.new.decoder c.read.result c.new.ensures c.read.ensures.read

pub returns-clause-only : goal.returns-clause-only
returns-clause-only c = begins_with c.args.buffer.now c.new.result c.read.new.decoder c.read.result c.new.ensures c.read.ensures.read

pub returns-clause-refused : goal.returns-clause-refused
returns-clause-refused c = search rules

pub returns-clause-fits : goal.returns-clause-fits
returns-clause-fits c = read_fits c.args.buffer.now c.new.result c.read.new.decoder c.read.result c.new.ensures c.read.ensures.read

pub returns-clause-fault : goal.returns-clause-fault
returns-clause-fault c =
    subst (λ (d : Reader). IfErr c.read.result (λ f. (f ≡ faults.Memory) ⊎ IsMessageFault d.bytes d.index f)) c.new.ensures c.read.ensures.fault
