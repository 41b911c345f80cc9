use Rattle.std.proofs.Common.{rules}
use Rattle.std.proofs.lemmas.Fn.{filter_same}
use Rattle.op.specs.Parts.{is_for_all}
use Rattle.op.proofs.message.keep_for_all.Goals as goal

pub returns : goal.returns
returns c = filter_same _ (is_for_all c.args.asked) _ (λ x b f k. search rules) _ _ c.retain.ensures.filtered
