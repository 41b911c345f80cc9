use Rattle.std.proofs.Common.{Bool, cond, false, ap, sym, ◌∙◌}
use Rattle.base.specs.DNSClass.{field_class, field_top, opt_class}
use Rattle.rr.proofs.record.reading.class_of_field.Goals as goal

pub returns-then-is_opt-clause-class : goal.returns-then-is_opt-clause-class
returns-then-is_opt-clause-class c =
    let opt = sym c.if-is_opt.true ∙ c.is_opt.ensures in
    c.for_opt.ensures ∙ ap (λ (opt : Bool). cond opt (opt_class c.args.field) (field_class c.args.field)) opt

pub returns-then-is_opt-clause-flush : goal.returns-then-is_opt-clause-flush
returns-then-is_opt-clause-flush c =
    let opt = sym c.if-is_opt.true ∙ c.is_opt.ensures in
    ap (λ (opt : Bool). cond opt false (field_top c.args.field)) opt

pub returns-else-is_opt-clause-class : goal.returns-else-is_opt-clause-class
returns-else-is_opt-clause-class c =
    let other = sym c.if-is_opt.false ∙ c.is_opt.ensures in
    c.from_field.ensures.class ∙ ap (λ (opt : Bool). cond opt (opt_class c.args.field) (field_class c.args.field)) other

pub returns-else-is_opt-clause-flush : goal.returns-else-is_opt-clause-flush
returns-else-is_opt-clause-flush c =
    let other = sym c.if-is_opt.false ∙ c.is_opt.ensures in
    c.from_field.ensures.top ∙ ap (λ (opt : Bool). cond opt false (field_top c.args.field)) other
