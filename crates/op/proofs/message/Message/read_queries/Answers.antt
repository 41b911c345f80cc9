use Rattle.std.proofs.Common.{rules}
use Rattle.base.specs.reading.Many.{many_at}
use Rattle.op.specs.Fault.{IsQueriesFault}
use Rattle.op.specs.Query.{query_at}
use Rattle.op.specs.ReadsOrDecodes.{ReadsOrDecodes}
use Rattle.op.proofs.reading.BufferLemmas.{decode_fault}
use Rattle.op.proofs.reading.MessageFaults.{refuses_questions}
use Rattle.op.proofs.message.Message.read_queries.Goals as goal

pub returns-in_err-read_many-clause-fault : goal.returns-in_err-read_many-clause-fault
returns-in_err-read_many-clause-fault c =
    let at = c.args.decoder.now in
    let reads : ReadsOrDecodes (λ v. v.items) at c.read_many.new.decoder c.from_residual.result
    (many_at query_at c.args.count at.bytes at.index) = search rules in
    decode_fault (λ v. v.items) (IsQueriesFault c.args.count at.bytes at.index) at c.read_many.new.decoder
    (λ f. (refuses_questions c.args.count at.bytes at.index f).0) c.from_residual.result reads
