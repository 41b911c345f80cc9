use Rattle.authority.proofs.replies.question_refusal.Goals as goal
use Rattle.std.proofs.Common.{sym, ◌∙◌}

pub returns-then-not-is_of_class : goal.returns-then-not-is_of_class
returns-then-not-is_of_class c = rw (sym c.is_of_class.ensures ∙ c.if-not-is_of_class.true)

pub returns-then-not-is_answered : goal.returns-then-not-is_answered
returns-then-not-is_answered c = rw (
  sym c.is_of_class.ensures ∙ c.if-not-is_of_class.false,
  sym c.is_answered.ensures ∙ c.if-not-is_answered.true,
)
