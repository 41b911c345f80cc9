use Rattle.std.proofs.Common.{◌≡◌, ◌+◌, ◌-◌, ◌++◌, ℕ, List, length, drop, ap, ◌∙◌, arith, length-append}
use Rattle.std.proofs.lemmas.List.{take_at}
use Rattle.std.proofs.lemmas.Slice.{take-put_mid}
use Rattle.std.specs.Int.{w32, to_be_bytes}
use Rattle.base.proofs.wire.suffix_table.key_into.Goals as goal

pub returns-clause-key : goal.returns-clause-key
returns-clause-key c =
    let wire = c.args.wire.now in
    let front : List ℕ = c.copy_from_slice.new.self ++ drop 4 c.args.room.now in
    let first = c.copy_from_slice.ensures.after ∙ c.to_be_bytes.ensures ∙ ap (to_be_bytes w32) c.key_number.ensures in
    let second = c.copy_from_slice-2.ensures.after in
    let four : length c.copy_from_slice.new.self ≡ 4 = ap length first in
    take-put_mid 4 (4 + length wire - 4) front c.copy_from_slice-2.new.self (4 + length wire)
    (omega (arith, ap length second)) (omega (
      arith,
      four,
      length-append c.copy_from_slice.new.self (drop 4 c.args.room.now),
    ))
    ∙ rw (take_at c.copy_from_slice.new.self (drop 4 c.args.room.now) 4 four, first, second)
