use Rattle.base.proofs.reading.SpellingLemmas.{spelled_once, spelled_kept, spelled_anywhere, spelled_longer}
use Rattle.base.proofs.reading.SpellingLemmas.{spelled_patched}
use Rattle.base.proofs.name.laws.spellings_stay.Goals as goal

pub returns-clause-once : goal.returns-clause-once
returns-clause-once c = λ bytes s i e f xs ys h g. spelled_once h g

pub returns-clause-kept : goal.returns-clause-kept
returns-clause-kept c = λ looks old new s i e xs kept h. spelled_kept kept h

pub returns-clause-anywhere : goal.returns-clause-anywhere
returns-clause-anywhere c = λ looks bytes s i e xs h. spelled_anywhere h

pub returns-clause-longer : goal.returns-clause-longer
returns-clause-longer c = λ from to bytes more s i e xs h. spelled_longer more h

pub returns-clause-patched : goal.returns-clause-patched
returns-clause-patched c = λ from to bytes patch s i e xs is fits h. spelled_patched from to bytes patch is fits h
