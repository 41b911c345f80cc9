use Rattle.authority.proofs.OnceLemmas.{answers_once, replies_once}
use Rattle.authority.proofs.laws.records_stand_once.Goals as goal

pub returns : goal.returns
returns c = record {
  answered = λ z t room n proper. answers_once z proper t room n;
  replied = λ z m r proper h. replies_once z proper m r h;
}
