use Rattle.base.proofs.writing.PatchLemmas.{Keeps-filled, Writes-filled}
use Rattle.base.proofs.wire.laws.filled_room_is_free.Goals as goal

pub returns : goal.returns
returns g c = record {
  keeps = λ room filling a state size kept. Keeps-filled room filling a state size kept;
  writes = λ x room filling a state size kept writes. Writes-filled room filling a state size kept writes;
}
