use Rattle.authority.proofs.CaseLemmas.{answers_alike, replies_alike, alike, lookups_alike}
use Rattle.authority.proofs.laws.letter_case_changes_no_records.Goals as goal

pub returns : goal.returns
returns c = record {
  found = λ z t a b h. lookups_alike z t a b (alike a b h);
  answered = λ z t room a b h. answers_alike z t room a b (alike a b h);
  replied = λ z m q n h. replies_alike z m q n (alike q.name n h);
}
