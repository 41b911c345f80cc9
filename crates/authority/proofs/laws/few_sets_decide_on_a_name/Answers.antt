use Rattle.authority.proofs.AgreementLemmas.{lookup_agrees}
use Rattle.authority.proofs.laws.few_sets_decide_on_a_name.Goals as goal

pub returns : goal.returns
returns c = λ z sets t n a. lookup_agrees z sets t n a
