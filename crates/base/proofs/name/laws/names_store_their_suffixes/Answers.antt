use Rattle.base.proofs.writing.SaysLemmas.{name-stores}
use Rattle.base.proofs.name.laws.names_store_their_suffixes.Goals as goal

pub returns : goal.returns
returns c = λ labels a b is. name-stores labels a b is
