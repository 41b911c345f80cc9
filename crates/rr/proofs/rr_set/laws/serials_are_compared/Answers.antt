use Rattle.rr.proofs.SerialLemmas.{grows_by_adding, not_both_greater, not_greater_than_itself, undefined_halfway}
use Rattle.rr.proofs.rr_set.laws.serials_are_compared.Goals as goal

pub returns : goal.returns
returns c = record {
  itself = not_greater_than_itself;
  one_way = not_both_greater;
  undefined =
      undefined_halfway;
  grows = grows_by_adding;
}
