use Rattle.std.proofs.Common.{rules}
use Rattle.base.specs.reading.Reading.{Reads}
use Rattle.op.specs.Fault.{IsSectionFault}
use Rattle.op.specs.Section.{read_section_value, section_at}
use Rattle.op.proofs.reading.BufferLemmas.{first_fault}
use Rattle.op.proofs.reading.SectionFaults.{refuses_section}
use Rattle.op.proofs.message.Message.read_records.Goals as goal

pub returns-in_err-read_section-clause-fault : goal.returns-in_err-read_section-clause-fault
returns-in_err-read_section-clause-fault c =
    let at = c.args.decoder.now in
    let reads : Reads read_section_value at c.read_section.new.decoder c.from_residual.result
    (section_at c.args.is_additional c.args.op_code c.args.count at.bytes at.index) = search rules in
    first_fault read_section_value (IsSectionFault c.args.is_additional c.args.op_code c.args.count at.bytes at.index)
    at c.read_section.new.decoder
    (λ f. (refuses_section c.args.is_additional c.args.op_code c.args.count at.bytes at.index f).0)
    c.from_residual.result reads
