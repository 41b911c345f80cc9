use Rattle.std.proofs.Common.{ap, sym, ◌∙◌, List, Some, drop, take, ℕ}
use Rattle.std.proofs.lemmas.Map.Text.{btree_map_updates_text}
use Rattle.std.proofs.lemmas.Result.{err_from_is_err_and}
use Rattle.std.specs.Map.{update}
use Rattle.std.specs.Str.{bytes_eq}
use Rattle.std.specs.String.{string_bytes}
use Rattle.txt.specs.Parser.{texts_in}
use Rattle.txt.specs.Zone.{no_texts}
use Rattle.tasks.proofs.CheckLemmas.{lengths_at, name_refused, text_more, text_refused, texts_on}
use Rattle.tasks.specs.ZoneText.{with_texts}
use Rattle.tasks.specs.ZoneText.{characters}
use Rattle.tasks.proofs.included.included_texts.Goals as goal

pub returns-in_err-name : goal.returns-in_err-name
returns-in_err-name c =
    let p = err_from_is_err_and c.from_residual.result c.from_residual.ensures.1 in
    rw (p.1, p.2) (name_refused (texts_in c.loop-lengths.texts) no_texts c.args.included.now
    c.loop-lengths.lengths-index c.loop-lengths.rest.now
    (with_texts no_texts c.args.included.now c.args.bytes.now) c.loop-lengths-test.true c.loop-lengths.invariant
    c.in_err-name.field-0.0.number
    (rw c.front_and_rest.ensures.front at c.in_err-name.ensures))

pub returns-in_err-text : goal.returns-in_err-text
returns-in_err-text c =
    let p = err_from_is_err_and c.from_residual-in_err-text.result c.from_residual-in_err-text.ensures.1 in
    rw (p.1, p.2) (text_refused (texts_in c.loop-lengths.texts) no_texts c.args.included.now
    c.loop-lengths.lengths-index c.loop-lengths.rest.now
    (with_texts no_texts c.args.included.now c.args.bytes.now) c.loop-lengths-test.true c.loop-lengths.invariant
    c.in_ok-name.name.now
    (ap characters (sym c.front_and_rest.ensures.front) ∙ c.in_ok-name.ensures)
    c.in_err-text.field-0.0.number
    (rw (c.front_and_rest-in-loop-lengths.ensures.front, c.front_and_rest.ensures.rest) at c.in_err-text.ensures))

pub loop-lengths-preserved : goal.loop-lengths-preserved
loop-lengths-preserved c =
    let old = texts_in c.loop-lengths.texts in
    let name = c.in_ok-from_str.field-0 in
    let text = c.in_ok-from_str-2.field-0 in
    let text_len = (lengths_at c.args.included.now c.loop-lengths.lengths-index).text_len in
    let new_is = text_more c.loop-lengths.texts c.insert.new.self name text
    (btree_map_updates_text (string_bytes name) c.loop-lengths.texts c.insert.new.self
    (Some text) c.in_ok-insert.ensures.updates)
    ∙ ap (λ (bs : List ℕ). update bytes_eq old bs (Some (string_bytes text))) c.in_ok-from_str.ensures.ok
    ∙ ap (λ (bs : List ℕ). update bytes_eq old c.in_ok-name.name.now (Some bs)) c.in_ok-from_str-2.ensures.ok in
    texts_on old (texts_in c.insert.new.self) c.args.included.now c.loop-lengths.lengths-index c.loop-lengths.rest.now
    (with_texts no_texts c.args.included.now c.args.bytes.now) c.loop-lengths-test.true c.loop-lengths.invariant
    c.in_ok-name.name.now (ap characters (sym c.front_and_rest.ensures.front) ∙ c.in_ok-name.ensures)
    c.in_ok-text.text.now c.front_and_rest-in-loop-lengths.result.1.now
    (ap (λ (bs : List ℕ). characters (take text_len bs)) (sym c.front_and_rest.ensures.rest)
    ∙ ap characters (sym c.front_and_rest-in-loop-lengths.ensures.front) ∙ c.in_ok-text.ensures)
    new_is
    (c.front_and_rest-in-loop-lengths.ensures.rest
    ∙ ap (λ (bs : List ℕ). drop text_len bs) c.front_and_rest.ensures.rest)
