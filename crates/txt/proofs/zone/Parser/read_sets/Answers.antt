use Rattle.std.proofs.Common.{sym, ◌∙◌, ap, rules}
use Rattle.std.proofs.lemmas.Result.{err_from_is_err_and}
use Rattle.base.specs.texts.TextFaults.{Fault}
use Rattle.txt.specs.Places.{position}
use Rattle.txt.specs.Zone.{parsed_of, placed}
use Rattle.txt.proofs.TextsLemmas.{FailsAt-through, parsed}
use Rattle.txt.proofs.zone.Parser.read_sets.Goals as goal

pub returns-in_err-read_texts : goal.returns-in_err-read_texts
returns-in_err-read_texts c =
    let p = err_from_is_err_and c.from_residual.result c.from_residual.ensures.1 in
    rw (p.1, p.2) (FailsAt-through c.in_err-read_texts.field-0.0 (λ fault made.
    parsed c.self.inside.includes.now (sym c.self.view_is) c.new-context.ensures
    ∙ ap (parsed_of c.self.inside.text.now) made) c.in_err-read_texts.ensures)

pub returns : goal.returns
returns c =
    let found = rw c.in-Some.is at c.answer.ensures in
    parsed c.self.inside.includes.now (sym c.self.view_is) c.new-context.ensures
    ∙ ap (parsed_of c.self.inside.text.now) c.in_ok-read_texts.ensures
    ∙ ap (placed (λ (fault : Fault). position c.self.inside.text.now 0)) found

pub returns-in_default : goal.returns-in_default
returns-in_default c =
    let found = rw c.in_default.is at c.answer.ensures in
    parsed c.self.inside.includes.now (sym c.self.view_is) c.new-context.ensures
    ∙ ap (parsed_of c.self.inside.text.now) c.in_ok-read_texts.ensures
    ∙ ap (placed (λ (fault : Fault). position c.self.inside.text.now 0)) found
    ∙ (search rules)
