use Rattle.std.specs.Prelude.{◌≡◌, length}
use Rattle.base.specs.texts.TokenList.{symbols}
use Rattle.txt.specs.Cutting.{settings_value}
use Rattle.txt.specs.Entries.{line_after, no_settings}
use Rattle.txt.proofs.zone.entry.cut_settings.Given as goal

abbrev pub invariant-words : goal.invariant-words
invariant-words l = line_after (symbols l.lexer) (settings_value l.settings) ≡ line_after
    (symbols l.fn.lexer) no_settings

abbrev pub decreases-words : goal.decreases-words
decreases-words l = length (symbols l.lexer)
