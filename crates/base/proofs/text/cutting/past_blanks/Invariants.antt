use Rattle.std.proofs.Common.{◌≡◌, length}
use Rattle.std.specs.Str.{IsUtf8}
use Rattle.base.specs.texts.Tokens.{past_blanks}
use Rattle.base.proofs.text.cutting.past_blanks.Given as goal

abbrev pub invariant-blanks : goal.invariant-blanks
invariant-blanks l = record {
  utf8 : IsUtf8 l.rest;
  same : past_blanks l.rest ≡ past_blanks l.text;
}

abbrev pub decreases-blanks : goal.decreases-blanks
decreases-blanks l = length l.rest
