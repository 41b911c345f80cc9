use Rattle.std.proofs.Common.{◌≡◌, ◌<◌, ◌∷◌, ◌-◌, ◌+◌, ◌*◌, ◌/◌, [], drop, length, get_or, arith, sym, ap, subst, ◌∙◌}
use Rattle.std.proofs.Common.{ℕ, List}
use Rattle.std.proofs.lemmas.List.{drop_all, drop_more}
use Rattle.txt.specs.Prefix.{FIRST, HaveDigits, digit, led}
use Rattle.txt.proofs.PrefixLemmas.{one_more, digit_few}
use Rattle.txt.proofs.zone.prefix.lead.Goals as goal

pub bytes-init : goal.bytes-init
unfolding led
bytes-init c =
    let none : drop (length c.args.label.now) c.args.label.now ≡ [] =
    drop_all (length c.args.label.now) c.args.label.now (omega arith) in
    record {
      there = omega arith;
      digits = subst HaveDigits (sym none) tt;
      value = ap (λ (bs : List ℕ). led bs c.args.others) (sym none);
      few = omega (arith, c.requires);
    }

pub bytes-preserved : goal.bytes-preserved
unfolding led
bytes-preserved c =
    let label = c.args.label.now in
    let at = c.bytes.at - 1 in
    let before = c.bytes.invariant in
    let known : c.from.result ≡ digit (get_or label at 0) = c.from.ensures ∙ c.digit-digit.ensures in
    let next : at + 1 ≡ c.bytes.at = omega (arith, c.bytes-test.true) in
    let more : drop at label ≡ get_or label at 0 ∷ drop c.bytes.at label =
    drop_more label at 0 (omega (arith, before.there, c.bytes-test.true))
    ∙ ap (λ (i : ℕ). get_or label at 0 ∷ drop i label) next in
    let some : 0 < digit (get_or label at 0) = omega (arith, c.if-digit-eq0.false, c.digit-digit.ensures) in
    record {
      there = omega (arith, before.there);
      digits = subst HaveDigits (sym more) (some, before.digits);
      value = ap (λ (d : ℕ). d * FIRST + c.bytes.prefix / 64) known
          ∙ ap (λ (p : ℕ). digit (get_or label at 0) * FIRST + p / 64) before.value
          ∙ ap (λ (bs : List ℕ). led bs c.args.others) (sym more);
      few = one_more c.from.result c.bytes.prefix
          (subst (λ (d : ℕ). d < 64) (sym known) (digit_few (get_or label at 0))) before.few;
    }
