use Rattle.base_data.proofs.Comparing.{options_decide}
use Rattle.base_data.proofs.EqualData.{aaaa_same, a_same}
use Rattle.base_data.proofs.rdata.laws.values_are_equal_as_they_are.Goals as goal

pub returns-clause-a : goal.returns-clause-a
returns-clause-a c = a_same

pub returns-clause-aaaa : goal.returns-clause-aaaa
returns-clause-aaaa c = aaaa_same

pub returns-clause-opt : goal.returns-clause-opt
returns-clause-opt c = λ a b. let d = options_decide a b in (λ yes. d.0 yes, λ is. d.1 is)
