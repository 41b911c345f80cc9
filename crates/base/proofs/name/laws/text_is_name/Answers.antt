use Rattle.base.proofs.texts.TextLawLemmas.{name_text_names}
use Rattle.base.proofs.name.laws.text_is_name.Goals as goal
use Rattle.base.proofs.texts.NameOfLaws.{name_once}

pub returns-clause-named : goal.returns-clause-named
returns-clause-named c = name_text_names

pub returns-clause-once : goal.returns-clause-once
returns-clause-once c = λ text origin a b. name_once
