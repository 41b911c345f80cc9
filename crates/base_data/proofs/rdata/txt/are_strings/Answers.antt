use Rattle.std.proofs.Common.{◌≡◌, ◌<◌, ◌+◌, length, arith}
use Rattle.std.proofs.lemmas.Bool.Decides.{nat_tests}
use Rattle.std.proofs.lemmas.List.{nil_from_length, take_rest}
use Rattle.base_data.proofs.StringLemmas.{cut_none, cut_next, cut_fault, cut_all, cut_short}
use Rattle.base_data.proofs.rdata.txt.are_strings.Goals as goal

pub loop-rest-init : goal.loop-rest-init
loop-rest-init c = cut_none c.args.bytes.now

pub returns-then-rest-end-clause-value : goal.returns-then-rest-end-clause-value
returns-then-rest-end-clause-value c =
    let some : 0 < length c.loop-rest.rest.now = grind (arith, nat_tests) in
    cut_fault c.args.bytes.now c.loop-rest.rest.now (1 + c.from-end.result) c.loop-rest.invariant some (omega arith)
    (omega arith)

pub loop-rest-preserved : goal.loop-rest-preserved
loop-rest-preserved c =
    let some : 0 < length c.loop-rest.rest.now = grind (arith, nat_tests) in
    rw take_rest (cut_next c.args.bytes.now c.loop-rest.rest.now (1 + c.from-end.result) c.loop-rest.invariant some
    (omega arith) (omega arith) (omega arith))

pub returns-clause-value : goal.returns-clause-value
returns-clause-value c =
    let none : length c.loop-rest.rest.now ≡ 0 = grind (arith, nat_tests) in
    cut_all c.args.bytes.now c.loop-rest.rest.now (nil_from_length c.loop-rest.rest.now none) c.loop-rest.invariant

pub returns-clause-short : goal.returns-clause-short
returns-clause-short c = λ yes.
    let none : length c.loop-rest.rest.now ≡ 0 = grind (arith, nat_tests) in
    cut_short c.args.bytes.now c.loop-rest.rest.now (nil_from_length c.loop-rest.rest.now none) c.loop-rest.invariant
