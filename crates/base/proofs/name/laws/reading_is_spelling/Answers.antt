use Rattle.base.proofs.reading.ReadingLemmas.{name_is, name_fault, name_again, fault_again}
use Rattle.base.proofs.name.laws.reading_is_spelling.Goals as goal

pub returns-clause-spelled : goal.returns-clause-spelled
returns-clause-spelled c = λ bytes i name e. (name_is bytes i name e, name_again bytes i name e)

pub returns-clause-faulty : goal.returns-clause-faulty
returns-clause-faulty c = λ bytes i f. (name_fault bytes i f, fault_again bytes i f)
