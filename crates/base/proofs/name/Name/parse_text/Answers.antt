use Rattle.std.proofs.Common.{[], ◌∷◌, refl, ap, sym, ◌∙◌, subst}
use Rattle.std.proofs.lemmas.Result.{err_from_is_err_and}
use Rattle.std.specs.Cmp.Lexicographic.{bytes_decides}
use Rattle.std.specs.Option.{option_copied}
use Rattle.base.specs.texts.NameText.{IsNameText, is_root, is_origin}
use Rattle.base.proofs.texts.NamedLemmas.{named_answers, bad_answers}
use Rattle.base.proofs.name.Name.parse_text.Goals as goal
use Rattle.base.proofs.texts.NameOfLaws.{no_origin}

pub returns-then-eq-clause-named : goal.returns-then-eq-clause-named
returns-then-eq-clause-named c =
    let text = (bytes_decides c.args.text.now (46 ∷ [])).0 (sym c.eq.ensures ∙ c.if-eq.true) in
    subst (IsNameText _ _) (sym c.root.ensures) (is_root text)

pub returns-then-eq-clause-refused : goal.returns-then-eq-clause-refused
returns-then-eq-clause-refused c =
    let text = (bytes_decides c.args.text.now (46 ∷ [])).0 (sym c.eq.ensures ∙ c.if-eq.true) in
    named_answers (λ bad. cc bad) (subst (IsNameText _ _) (sym c.root.ensures) (is_root text))

pub returns-in_default-clause-refused : goal.returns-in_default-clause-refused
returns-in_default-clause-refused c =
    let text = (bytes_decides c.args.text.now (64 ∷ [])).0 (sym c.eq-2.ensures ∙ c.if-eq-2.true) in
    bad_answers refl (λ name. no_origin text (ap option_copied c.in_default.is))

pub returns-in_err-clone-clause-refused : goal.returns-in_err-clone-clause-refused
returns-in_err-clone-clause-refused c =
    let text = (bytes_decides c.args.text.now (64 ∷ [])).0 (sym c.eq-2.ensures ∙ c.if-eq-2.true) in
    let p = err_from_is_err_and c.from_residual.result c.from_residual.ensures.1 in
    named_answers (λ bad. cc (p.1, p.2, bad)) (is_origin (ap option_copied c.in-Some.is) text)

pub returns-then-eq-2-clause-named : goal.returns-then-eq-2-clause-named
returns-then-eq-2-clause-named c =
    let text = (bytes_decides c.args.text.now (64 ∷ [])).0 (sym c.eq-2.ensures ∙ c.if-eq-2.true) in
    subst (IsNameText _ _) (sym c.in_ok-clone.ensures.cases) (is_origin (ap option_copied c.in-Some.is) text)

pub returns-then-eq-2-clause-refused : goal.returns-then-eq-2-clause-refused
returns-then-eq-2-clause-refused c =
    let text = (bytes_decides c.args.text.now (64 ∷ [])).0 (sym c.eq-2.ensures ∙ c.if-eq-2.true) in
    named_answers (λ bad. cc bad) (subst (IsNameText _ _) (sym c.in_ok-clone.ensures.cases)
    (is_origin (ap option_copied c.in-Some.is) text))
