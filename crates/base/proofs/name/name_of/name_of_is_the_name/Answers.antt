use Rattle.base.proofs.texts.NameOfLaws.{named_by, names, refused_names, refuses}
use Rattle.base.proofs.name.name_of.name_of_is_the_name.Goals as goal

pub returns-clause-named : goal.returns-clause-named
returns-clause-named c = λ text origin name. (names text origin name, named_by)

pub returns-clause-refused : goal.returns-clause-refused
returns-clause-refused c = λ text origin. (refused_names text origin, refuses text origin)
