use Rattle.base.specs.declared.error.proto_error.ProtoError.TheVariants as refusals
use Rattle.op.proofs.AnswerLaws.{not_refused, refused_at, too_small}
use Rattle.op.proofs.message.laws.a_refused_message_has_no_room.Goals as goal

pub returns-clause-small : goal.returns-clause-small
returns-clause-small c = too_small

pub returns-clause-succeeds : goal.returns-clause-succeeds
returns-clause-succeeds c = λ m limit at stored e room. not_refused m limit at stored e room

pub returns-clause-count : goal.returns-clause-count
returns-clause-count c = λ m limit at stored n is. (refused_at m limit at stored (refusals.NotAllRecordsWritten n) is).2
