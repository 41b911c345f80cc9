use Rattle.std.proofs.Common.{◌≡◌, ◌∙◌, Bool, ap, false, subst, sym}
use Rattle.std.specs.Prelude.{◌&&◌}
use Rattle.base.specs.texts.Cuts.{TakesNone}
use Rattle.base.specs.texts.Tokens.{Unread, begins_blank, next}
use Rattle.base.proofs.texts.TakingLemmas.{next_visible, visible_takes}
use Rattle.base.proofs.text.lexer.Lexer.next_ref.Goals as goal
use Rattle.base.proofs.text.lexer.Lexer.next_ref.Goals.{else-self-via-then-self+else-begins_blank}
use Rattle.base.proofs.text.lexer.Lexer.next_ref.Goals.{else-self-via-else-self}

pub returns-in_err-token-clause-certain : goal.returns-in_err-token-clause-certain
returns-in_err-token-clause-certain c = λ none.
    let rest = c.self.inside.rest.now in
    let off : (c.self.inside.at_line_start && begins_blank rest) ≡ false = elim c.else-self.branch [
      | else-self-via-then-self+else-begins_blank w ↦
          ap (λ (b : Bool). b && begins_blank rest) w.if-self.true ∙ sym w.begins_blank.ensures.value
          ∙ w.if-begins_blank.false
      | else-self-via-else-self w ↦ ap (λ (b : Bool). b && begins_blank rest) w.if-self.false
    ] in
    let text = c.past_comment-text.result.now in
    let here = subst (λ (u : Unread). TakesNone (next u)) (sym c.self.view_is) none in
    absurd (visible_takes text c.in-Some.c (sym c.in-Some.ensures) (sym c.is_line_end.ensures ∙ c.if-is_line_end.false)
    (subst TakesNone (next_visible _ c.past_blanks.result.now text off c.past_blanks.ensures
    c.past_comment-text.ensures) here))
