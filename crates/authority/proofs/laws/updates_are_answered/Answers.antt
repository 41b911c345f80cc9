use Rattle.authority.proofs.laws.updates_are_answered.Goals as goal
use Rattle.authority.specs.Reply.{reply}
use Rattle.op.specs.declared.response_code.ResponseCode.{ResponseCode}
use Rattle.op_use.specs.Zone.{Zone}
use Rattle.std.proofs.Common.{ap}

pub returns : goal.returns
returns c = record {
  replies = λ origin class s old code new m h. ap (λ (p : ResponseCode × Zone). reply p.1 m) h.served;
  keys = λ origin class s old code new h k x there. (h.is_map k x there).own_key;
}
