use Rattle.std.proofs.Common.{◌≡◌, length, false}
use Rattle.std.specs.Str.{IsUtf8}
use Rattle.base.specs.texts.Tokens.{past_separators}
use Rattle.base.proofs.text.cutting.past_separators.Given as goal

abbrev pub invariant-separators : goal.invariant-separators
invariant-separators l = record {
  utf8 : IsUtf8 l.rest;
  same : past_separators false l.rest ≡ past_separators false l.text;
}

abbrev pub decreases-separators : goal.decreases-separators
decreases-separators l = length l.rest
