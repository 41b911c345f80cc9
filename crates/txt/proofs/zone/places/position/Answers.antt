use Rattle.std.proofs.Common.{◌≤◌, ℕ, List, arith, ap, sym, ◌∙◌, drop, length, length-drop}
use Rattle.txt.specs.Places.{position, position_from}
use Rattle.txt.proofs.PlaceLemmas.{stays}
use Rattle.txt.proofs.zone.places.position.Goals as goal

pub returns : goal.returns
unfolding position
returns c =
    let ends : length (drop c.bytes.at c.as_bytes-bytes.result.now) ≤ c.args.left =
    omega (arith, length-drop c.bytes.at c.as_bytes-bytes.result.now, c.bytes-test.false) in
    sym (stays c.bytes.line c.bytes.column (drop c.bytes.at c.as_bytes-bytes.result.now) c.args.left ends)
    ∙ c.bytes.invariant.same ∙ ap (λ (text : List ℕ). position_from 1 1 text c.args.left) c.as_bytes-bytes.ensures.value
