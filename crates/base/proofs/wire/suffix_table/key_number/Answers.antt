use Rattle.std.proofs.Common.{refl, ◌∙◌, ◌*◌, ◌+◌, ◌-◌, ◌%◌, ◌≡◌, ℕ, ap, sym, arith, length, length-drop, drop}
use Rattle.std.proofs.lemmas.List.{take_all}
use Rattle.base.specs.writing.State.{front_number}
use Rattle.base.specs.writing.Suffixes.{numbered}
use Rattle.base.proofs.writing.KeyLemmas.{numbered_all, numbered_more}
use Rattle.base.proofs.wire.suffix_table.key_number.Goals as goal

pub loop-rest-init : goal.loop-rest-init
loop-rest-init c = refl

pub loop-rest-smaller : goal.loop-rest-smaller
loop-rest-smaller c =
    let rest = c.loop-rest.rest.now in
    omega (
      arith,
      c.loop-rest-test.true,
      length-drop 8 rest,
      ap length (take_all (length rest - 8) (drop 8 rest) (omega (arith, length-drop 8 rest))),
    )

pub loop-rest-preserved : goal.loop-rest-preserved
loop-rest-preserved c =
    let rest = c.loop-rest.rest.now in
    let n = c.loop-rest.number * 33 % 4294967296 in
    rw (take_all (length rest - 8) (drop 8 rest) (omega (arith, length-drop 8 rest)))
    (ap (λ (k : ℕ). numbered ((n + k) % 4294967296) (drop 8 rest)) c.front_number.ensures
    ∙ sym (numbered_more c.loop-rest.number rest c.loop-rest-test.true) ∙ c.loop-rest.invariant)

pub returns : goal.returns
returns c =
    let wire = c.args.wire.now in
    let at = c.saturating_sub.result in
    let n : c.loop-rest.number ≡ numbered (length wire) wire =
    sym (numbered_all c.loop-rest.number c.loop-rest.rest.now c.loop-rest-test.false) ∙ c.loop-rest.invariant in
    let last : c.front_number-last.result ≡ front_number (drop (length wire - 8) wire) =
    c.front_number-last.ensures
    ∙ ap front_number (take_all (length wire - at) (drop at wire) (omega (arith, length-drop at wire)))
    ∙ ap (λ (i : ℕ). front_number (drop i wire)) c.saturating_sub.ensures in
    rw (n, last) refl
