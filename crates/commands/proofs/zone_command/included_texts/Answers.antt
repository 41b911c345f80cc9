use Rattle.std.proofs.Common.{rules, ap, sym, ◌∙◌, take, ◌∷◌, [], ◌++◌}
use Rattle.std.proofs.lemmas.List.{map-append, take_more}
use Rattle.std.proofs.lemmas.Map.Text.{btree_map_updates_text}
use Rattle.std.specs.Prelude.{Some, String}
use Rattle.std.specs.declared.alloc.Global.{Global}
use Rattle.std.specs.String.{string_bytes}
use Rattle.commands.proofs.ZoneLemmas.{text_put}
use Rattle.commands.specs.Words.{as_bytes}
use Rattle.commands.proofs.zone_command.included_texts.Goals as goal

pub loop-word-preserved : goal.loop-word-preserved
loop-word-preserved c =
    let more = ap as_bytes (take_more c.args.words.now c.loop-word.word-index c.word-item.result c.loop-word-test.true)
    ∙ map-append string_bytes (take c.loop-word.word-index c.args.words.now) _ in
    text_put c.loop-word.includes c.insert.new.self
    (as_bytes (take c.loop-word.word-index c.args.words.now)) c.loop-word.invariant (record {
      key = c.in_ok-from_str.field-0;
      text = c.in_ok-from_str-2.field-0;
      puts = btree_map_updates_text (string_bytes c.in_ok-from_str.field-0) c.loop-word.includes c.insert.new.self
          (Some c.in_ok-from_str-2.field-0) c.in_ok-insert.ensures.updates;
      key_is = search rules;
      text_is = search rules;
    })
    (more ∙ ap (λ (w : String Global). as_bytes (take c.loop-word.word-index c.args.words.now) ++ string_bytes w ∷ [])
    (sym c.word-item.is))
