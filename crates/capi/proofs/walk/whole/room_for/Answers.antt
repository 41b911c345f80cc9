use Rattle.std.proofs.Common.{ap, arith, length, length-append, sym, [], ◌∷◌, ◌≡◌, ◌+◌}
use Rattle.base.specs.names.Labels.{wire_of}
use Rattle.capi.proofs.WalkLemmas.{names_length, no_names}
use Rattle.capi.specs.WalkWhole.{octets_of}
use Rattle.capi.proofs.walk.whole.room_for.Goals as goal

pub loop-stop-init : goal.loop-stop-init
loop-stop-init c = (sym (ap length no_names), omega arith)

pub loop-stop-preserved : goal.loop-stop-preserved
loop-stop-preserved c =
    let stop = c.stop-item.result in
    let more = names_length c.args.stops.now c.loop-stop.stop-index stop c.stop-item.is c.loop-stop-test.true in
    let len : length (octets_of stop.name) ≡ length c.as_wire.result.now + 1 =
    omega (arith, ap length c.as_wire.ensures.value, length-append (wire_of stop.name.labels) (0 ∷ [])) in
    (omega (arith, more, len, c.loop-stop.invariant.0), omega (arith, c.loop-stop.invariant.1, c.as_wire.ensures.short))
