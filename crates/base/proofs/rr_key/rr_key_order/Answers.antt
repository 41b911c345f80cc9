use Rattle.std.proofs.Common.{◌∙◌, sym}
use Rattle.std.specs.Cmp.{Equal-is}
use Rattle.base.specs.RrKey.{key_cmp}
use Rattle.base.specs.contracts.rr_key.RrKeyOrd.TheImpl.Laws.{matches_eq-law}
use Rattle.base.proofs.names.KeyLemmas.{key_cmp-exact, key_cmp-total}
use Rattle.base.proofs.rr_key.rr_key_order.Goals as goal

pub returns-clause-total : goal.returns-clause-total
returns-clause-total c = key_cmp-total

pub returns-clause-exact : goal.returns-clause-exact
returns-clause-exact c = key_cmp-exact

pub returns-clause-same : goal.returns-clause-same
returns-clause-same c = λ a b same. key_cmp-exact a b ((Equal-is (key_cmp a b)).0 (sym (matches_eq-law a b) ∙ same))
