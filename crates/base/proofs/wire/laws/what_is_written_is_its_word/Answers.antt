use Rattle.base.proofs.writing.SaysLemmas.{Exactly-writes, Says-refuses}
use Rattle.base.proofs.wire.laws.what_is_written_is_its_word.Goals as goal

pub returns : goal.returns
returns g c = record {
  writes = λ x a b answer keeps narrow fits is.
      Exactly-writes (g.E.BinEncodable.written x) a b (g.met.E.BinEncodable.says x) answer is fits keeps.within narrow;
  refuses = λ x a b answer is. Says-refuses (g.E.BinEncodable.written x) a b (g.met.E.BinEncodable.says x) answer is;
}
