use Rattle.std.proofs.Common.{ap, sym, ◌∙◌, arith}
use Rattle.base.specs.texts.Ttl.{below_limit}
use Rattle.base.proofs.texts.TtlLemmas.{digit_too_many, step_bare, step_other, step_unit, unit_too_many}
use Rattle.base.proofs.text.ttl.ttl_step.Goals as goal

pub returns-in_err-tens-clause-none : goal.returns-in_err-tens-clause-none
returns-in_err-tens-clause-none c = rw c.from_residual.ensures (λ rest.
    digit_too_many c.args.sum c.args.begun c.args.c rest (sym c.is_ascii_digit.ensures.value ∙ c.if-is_ascii_digit.true)
    (omega (arith, c.in_err-tens.ensures, c.unwrap_or.ensures)))

pub returns-in_err-number-clause-none : goal.returns-in_err-number-clause-none
returns-in_err-number-clause-none c = rw c.from_residual-in_err-number.ensures (λ rest.
    digit_too_many c.args.sum c.args.begun c.args.c rest (sym c.is_ascii_digit.ensures.value ∙ c.if-is_ascii_digit.true)
    (omega (arith, c.in_err-number.ensures, c.in_ok-tens.ensures, c.unwrap_or.ensures, c.from.ensures)))

pub returns-in_err-begun-clause-none : goal.returns-in_err-begun-clause-none
returns-in_err-begun-clause-none c = rw (c.from_residual-in_err-begun.ensures, c.in_err-begun.was) (λ rest.
    ap below_limit (step_bare c.args.sum c.args.c rest
    (sym c.is_ascii_digit.ensures.value ∙ c.if-is_ascii_digit.false)))

pub returns-in_err-unit_of-clause-none : goal.returns-in_err-unit_of-clause-none
returns-in_err-unit_of-clause-none c = rw (c.from_residual-in_err-unit_of.ensures, c.in_ok-begun.was) (λ rest.
    ap below_limit (step_other c.args.sum c.in_ok-begun.field-0 c.args.c rest
    (sym c.is_ascii_digit.ensures.value ∙ c.if-is_ascii_digit.false)
    (sym c.unit_of.ensures ∙ c.in_err-unit_of.was)))

pub returns-in_err-seconds-clause-none : goal.returns-in_err-seconds-clause-none
returns-in_err-seconds-clause-none c = rw (c.from_residual-in_err-seconds.ensures, c.in_ok-begun.was) (λ rest.
    unit_too_many c.args.sum c.in_ok-begun.field-0 c.in_ok-unit_of.field-0 c.args.c rest
    (sym c.is_ascii_digit.ensures.value ∙ c.if-is_ascii_digit.false)
    (sym c.unit_of.ensures ∙ c.in_ok-unit_of.was) (omega (arith, c.in_err-seconds.ensures)))

pub returns-in_err-checked_add-clause-none : goal.returns-in_err-checked_add-clause-none
returns-in_err-checked_add-clause-none c = rw (c.from_residual-in_err-checked_add.ensures, c.in_ok-begun.was) (λ rest.
    unit_too_many c.args.sum c.in_ok-begun.field-0 c.in_ok-unit_of.field-0 c.args.c rest
    (sym c.is_ascii_digit.ensures.value ∙ c.if-is_ascii_digit.false)
    (sym c.unit_of.ensures ∙ c.in_ok-unit_of.was)
    (omega (arith, c.in_err-checked_add.ensures, c.in_ok-seconds.ensures)))

pub returns-clause-some : goal.returns-clause-some
returns-clause-some c = rw (c.in_ok-checked_add.ensures.1, c.in_ok-seconds.ensures.1, c.in_ok-begun.was) (λ rest.
    step_unit c.args.sum c.in_ok-begun.field-0 c.in_ok-unit_of.field-0 c.args.c rest
    (sym c.is_ascii_digit.ensures.value ∙ c.if-is_ascii_digit.false)
    (sym c.unit_of.ensures ∙ c.in_ok-unit_of.was))
