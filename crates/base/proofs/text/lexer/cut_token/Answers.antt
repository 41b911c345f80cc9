use Rattle.std.proofs.Common.{ap, arith, ◌∙◌}
use Rattle.std.proofs.lemmas.Result.{err_from_is_err_and}
use Rattle.base.specs.texts.Tokens.{next_item, next_list, next_quoted, token_or_fault, within_line}
use Rattle.base.proofs.Refusing.{Faults-through}
use Rattle.base.proofs.texts.TakingLemmas.{visible_item, visible_list, visible_quoted}
use Rattle.base.proofs.text.lexer.cut_token.Goals as goal

pub returns-in_err-word-in-34 : goal.returns-in_err-word-in-34
returns-in_err-word-in-34 c =
    let p = err_from_is_err_and c.from_residual.result c.from_residual.ensures.1 in
    rw (p.1, p.2) (Faults-through c.in_err-word-in-34.field-0.0 (λ none.
    visible_quoted _ _ _ c.requires.first c.in-34.is c.past_first.ensures.value ∙ ap next_quoted none)
    c.in_err-word-in-34.ensures)

pub returns-in_ok-word-in-34 : goal.returns-in_ok-word-in-34
returns-in_ok-word-in-34 c =
    visible_quoted _ _ _ c.requires.first c.in-34.is c.past_first.ensures.value
    ∙ ap next_quoted c.in_ok-word-in-34.ensures

pub returns-in_err-items-in-40 : goal.returns-in_err-items-in-40
returns-in_err-items-in-40 c =
    let p = err_from_is_err_and c.from_residual-in_err-items-in-40.result
    c.from_residual-in_err-items-in-40.ensures.1 in
    rw (p.1, p.2) (Faults-through c.in_err-items-in-40.field-0.0 (λ none.
    visible_list _ _ _ c.requires.first c.in-40.is c.past_first-in-40.ensures.value ∙ ap next_list none)
    c.in_err-items-in-40.ensures)

pub returns-in_ok-items-in-40 : goal.returns-in_ok-items-in-40
returns-in_ok-items-in-40 c =
    visible_list _ _ _ c.requires.first c.in-40.is c.past_first-in-40.ensures.value
    ∙ ap next_list c.in_ok-items-in-40.ensures

pub returns-in_err-word-in_default : goal.returns-in_err-word-in_default
returns-in_err-word-in_default c =
    let p = err_from_is_err_and c.from_residual-in_err-word-in_default.result
    c.from_residual-in_err-word-in_default.ensures.1 in
    rw (p.1, p.2) (Faults-through c.in_err-word-in_default.field-0.0 (λ none.
    visible_item _ _ c.requires.first c.requires.no_line_end (omega arith) (omega arith) (omega arith)
    ∙ ap next_item none)
    c.in_err-word-in_default.ensures)

pub returns-in_err-token_of-in_default : goal.returns-in_err-token_of-in_default
returns-in_err-token_of-in_default c =
    let p = err_from_is_err_and c.from_residual-in_err-token_of-in_default.result
    c.from_residual-in_err-token_of-in_default.ensures.1 in
    rw (p.1, p.2) (Faults-through c.in_err-token_of-in_default.field-0.0 (λ none.
    visible_item _ _ c.requires.first c.requires.no_line_end (omega arith) (omega arith) (omega arith)
    ∙ ap next_item c.in_ok-word-in_default.ensures
    ∙ ap (λ t. token_or_fault t (within_line c.in_ok-word-in_default.rest.now)) none)
    c.in_err-token_of-in_default.ensures)

pub returns-in_ok-token_of-in_default : goal.returns-in_ok-token_of-in_default
returns-in_ok-token_of-in_default c =
    visible_item _ _ c.requires.first c.requires.no_line_end (omega arith) (omega arith) (omega arith)
    ∙ ap next_item c.in_ok-word-in_default.ensures
    ∙ ap (λ t. token_or_fault t (within_line c.in_ok-word-in_default.rest.now)) c.in_ok-token_of-in_default.ensures
