-- What is found and answered, with owners in lower case (RFC 4343, 3).
use Rattle.authority.specs.Answer.{AnswerValue}
use Rattle.authority.specs.Lookup.{Alias, Cut, Data, Finding, NoName, Outside, owner_lowered}
use Rattle.base.specs.names.NameOrder.{lowered}
use Rattle.op.specs.Message.{MessageValue}
use Rattle.std.specs.Prelude.{[], map}

-- what was found, with owners in lower case
abbrev pub finding_lowered : Finding → Finding
finding_lowered Outside = Outside
finding_lowered NoName = NoName
finding_lowered (Cut m) = Cut (lowered m)
finding_lowered (Alias r target) = Alias (owner_lowered r) target
finding_lowered (Data rs) = Data (map owner_lowered rs)

-- an answer, with owners in lower case
abbrev pub answer_lowered : AnswerValue → AnswerValue
answer_lowered a = record a {
  answers = map owner_lowered a.answers;
  authorities = map owner_lowered a.authorities;
  additionals = map owner_lowered a.additionals;
}

-- a message without its questions, with owners in lower case
abbrev pub message_lowered : MessageValue → MessageValue
message_lowered m = record m {
  queries = [];
  answers = map owner_lowered m.answers;
  authorities = map owner_lowered m.authorities;
  additionals = map owner_lowered m.additionals;
}
