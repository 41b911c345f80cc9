use Rattle.std.proofs.Common.{arith, length-append}
use Rattle.base.specs.writing.Written.{piece_at, in_turn}
use Rattle.base.proofs.writing.FittingLemmas.{all_fit}
use Rattle.op.specs.Query.{query_written}
use Rattle.rr.specs.Record.{record_written}
use Rattle.op.proofs.message.laws.what_has_room_is_kept.Goals as goal

pub returns-clause-records : goal.returns-clause-records
returns-clause-records c = λ limit rs s room.
    all_fit record_written limit rs _ _ (omega
    (arith, room, length-append s.bytes (piece_at (in_turn record_written rs) s).bytes))

pub returns-clause-questions : goal.returns-clause-questions
returns-clause-questions c = λ limit qs s room.
    all_fit query_written limit qs _ _ (omega
    (arith, room, length-append s.bytes (piece_at (in_turn query_written qs) s).bytes))
