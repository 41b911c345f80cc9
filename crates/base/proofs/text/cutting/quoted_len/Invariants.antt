use Rattle.std.proofs.Common.{◌≡◌, false, take, drop}
use Rattle.base.specs.texts.Tokens.{before, quoted}
use Rattle.base.proofs.text.cutting.quoted_len.Given as goal

abbrev pub invariant-loop-i : goal.invariant-loop-i
invariant-loop-i l = before (take l.i l.text) (quoted l.kept (drop l.i l.text)) ≡ quoted false l.text
