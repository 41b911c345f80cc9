use Rattle.base.proofs.reading.TrackLemmas.{inserted-all}
use Rattle.base.proofs.wire.laws.a_new_decoder_keeps_what_is_passed.Goals as goal
use Rattle.std.proofs.Common.{◌∙◌}

pub returns : goal.returns
returns c = λ bytes names new t. (t.offsets, t.pass, t.exact ∙ inserted-all t.offsets)
