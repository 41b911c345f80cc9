use Rattle.rr.proofs.SetTidy.{add_keeps_tidy, empty_is_tidy, insert_keeps_tidy, one_is_tidy, remove_keeps_tidy}
use Rattle.rr.proofs.rr_set.laws.sets_are_tidy.Goals as goal

pub returns : goal.returns
returns c = record {
  empty = empty_is_tidy;
  one = one_is_tidy;
  insert = insert_keeps_tidy;
  add =
      add_keeps_tidy;
  remove = remove_keeps_tidy;
}
