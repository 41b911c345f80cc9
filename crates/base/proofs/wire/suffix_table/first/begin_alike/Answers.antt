use Rattle.std.proofs.Common.{◌∙◌, ◌≡◌, ap, sym, arith, length-take-le, take}
use Rattle.std.proofs.lemmas.Bool.{eqb-true, eq-eqb}
use Rattle.std.specs.Int.{from_le_bytes, w64}
use Rattle.base.proofs.writing.EightLemmas.{same_eight, taken_bytes}
use Rattle.base.proofs.wire.suffix_table.first.begin_alike.Goals as goal

pub returns-in-Some-Some : goal.returns-in-Some-Some
returns-in-Some-Some c =
    let xs = c.args.one.now in
    let ys = c.args.other.now in
    let one : c.in-Some-Some.one.now ≡ take 8 xs = c.in-Some-Some.ensures.cases.same in
    let other : c.in-Some-Some.other.now ≡ take 8 ys = c.in-Some-Some.ensures'.cases.same in
    let n : c.from_le_bytes.result ≡ from_le_bytes w64 (take 8 xs) =
    c.from_le_bytes.ensures ∙ ap (from_le_bytes w64) one in
    let m : c.from_le_bytes-in-Some-Some.result ≡ from_le_bytes w64 (take 8 ys) =
    c.from_le_bytes-in-Some-Some.ensures ∙ ap (from_le_bytes w64) other in (
      λ same. same_eight (take 8 xs) (take 8 ys) (length-take-le 8 xs c.requires.one)
          (length-take-le 8 ys c.requires.other) (taken_bytes 8 xs (λ i. omega (arith, c.type_inv.one i)))
          (taken_bytes 8 ys (λ i. omega (arith, c.type_inv.other i)))
          (sym n ∙ eqb-true c.from_le_bytes.result c.from_le_bytes-in-Some-Some.result same ∙ m),
      λ same. eq-eqb c.from_le_bytes.result c.from_le_bytes-in-Some-Some.result
          (n ∙ ap (from_le_bytes w64) same ∙ sym m),
    )
