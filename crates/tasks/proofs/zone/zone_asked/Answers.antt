use Rattle.std.proofs.Common.{List, Some, ℕ, ◌∙◌, ◌≡◌}
use Rattle.std.proofs.lemmas.Result.{err_from_is_err_and}
use Rattle.base.specs.names.Labels.{NameValue}
use Rattle.txt.specs.Parser.{ParserValue, named_texts}
use Rattle.tasks.proofs.CheckLemmas.{zone_made, zone_refused}
use Rattle.tasks.proofs.zone.zone_asked.Goals as goal

-- what the parser was handed
handed : (p : ParserValue) (text : List ℕ) (includes : List (List ℕ × List ℕ)) (copy name : NameValue)
    → p ≡ record { text = text; includes = includes; origin = Some copy } → copy ≡ name
    → p ≡ record { text = text; includes = includes; origin = Some name }
handed p text includes copy name is same =
    is ∙ (λ i. record { text = text; includes = includes; origin = Some (same i) })

pub returns-in_err-_origin-clause-made : goal.returns-in_err-_origin-clause-made
returns-in_err-_origin-clause-made c =
    let p = err_from_is_err_and c.from_residual-in_err-_origin.result c.from_residual-in_err-_origin.ensures.1 in
    rw (p.1, p.2) (zone_refused c.args.origin.now c.args.text.now c.args.included.now c.args.included_bytes.now
    c.in_ok-zone.zone c.in_ok-text.text.now c.in_ok-texts.texts c.new.result
    c.in_ok-zone.ensures c.in_ok-text.ensures c.in_ok-texts.ensures
    (handed c.new.result c.in_ok-text.text.now (named_texts c.in_ok-texts.texts) c.in_ok-clone.field-0 c.in_ok-zone.zone
    c.new.ensures c.in_ok-clone.ensures.cases)
    c.in_err-_origin.field-0.0 c.in_err-_origin.ensures.zone)

pub returns-clause-made : goal.returns-clause-made
returns-clause-made c =
    zone_made c.args.origin.now c.args.text.now c.args.included.now c.args.included_bytes.now
    c.in_ok-zone.zone c.in_ok-text.text.now c.in_ok-texts.texts c.new.result
    c.in_ok-zone.ensures c.in_ok-text.ensures c.in_ok-texts.ensures
    (handed c.new.result c.in_ok-text.text.now (named_texts c.in_ok-texts.texts) c.in_ok-clone.field-0 c.in_ok-zone.zone
    c.new.ensures c.in_ok-clone.ensures.cases)
    (c.in_ok-_origin._origin, c.in_ok-_origin.sets.entries) c.in_ok-_origin.ensures.zone
