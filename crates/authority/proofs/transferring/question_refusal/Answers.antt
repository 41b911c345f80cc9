use Rattle.authority.proofs.transferring.question_refusal.Goals as goal
use Rattle.authority.specs.Transfer.{is_axfr}
use Rattle.base.specs.RecordType.{same_type}
use Rattle.base.specs.declared.record_type.RecordType.TheVariants as types
use Rattle.base.specs.declared.record_type.RecordType.{RecordType}
use Rattle.std.proofs.Common.{rules, sym, ◌∙◌, ◌≡◌}
use Rattle.std.proofs.lemmas.Bool.{not-false, not-true}

axfr_is : (t : RecordType) → is_axfr t ≡ same_type t types.AXFR
axfr_is = search rules

pub returns-then-not-is_of_class : goal.returns-then-not-is_of_class
returns-then-not-is_of_class c = rw (sym c.is_of_class.ensures ∙ c.if-not-is_of_class.true)

pub returns-then-ne : goal.returns-then-ne
returns-then-ne c = rw (
  sym c.is_of_class.ensures ∙ c.if-not-is_of_class.false,
  axfr_is c.args.question.now.query_type ∙ not-true _ (sym c.ne.ensures ∙ c.if-ne.true),
)

pub returns-then-ne-2 : goal.returns-then-ne-2
returns-then-ne-2 c = rw (
  sym c.is_of_class.ensures ∙ c.if-not-is_of_class.false,
  axfr_is c.args.question.now.query_type ∙ not-false _ (sym c.ne.ensures ∙ c.if-ne.false),
  not-true _ (sym c.ne-2.ensures ∙ c.if-ne-2.true),
)

pub returns : goal.returns
returns c = rw (
  sym c.is_of_class.ensures ∙ c.if-not-is_of_class.false,
  axfr_is c.args.question.now.query_type ∙ not-false _ (sym c.ne.ensures ∙ c.if-ne.false),
  not-false _ (sym c.ne-2.ensures ∙ c.if-ne-2.false),
)
