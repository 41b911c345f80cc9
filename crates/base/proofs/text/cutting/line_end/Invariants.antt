use Rattle.std.proofs.Common.{◌≡◌, drop}
use Rattle.base.specs.texts.Tokens.{line_end}
use Rattle.base.proofs.text.cutting.line_end.Given as goal

abbrev pub invariant-loop-i : goal.invariant-loop-i
invariant-loop-i l = line_end (drop l.i l.text) ≡ line_end l.text
