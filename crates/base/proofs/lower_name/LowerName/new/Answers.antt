use Rattle.base.proofs.names.CompareLemmas.{folded_lower}
use Rattle.base.proofs.lower_name.LowerName.new.Goals as goal

pub invariant_of-result : goal.invariant_of-result
invariant_of-result c = folded_lower c.args.name.now _ c.in_ok-to_lowercase.ensures.value
