use Rattle.std.proofs.Common.{◌≡◌, drop, None}
use Rattle.base.specs.texts.Ttl.{below_limit, ttl_sum}
use Rattle.base.proofs.text.ttl.ttl_of.Given as goal

-- what is left, after the sum so far and the number begun, is all
abbrev pub invariant-loop-c : goal.invariant-loop-c
invariant-loop-c l = below_limit (ttl_sum l.sum l.begun (drop l.c-index l.text)) ≡ below_limit (ttl_sum 0 None l.text)
