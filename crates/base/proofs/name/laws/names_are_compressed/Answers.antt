use Rattle.base.proofs.writing.CompressionLemmas.{compressed}
use Rattle.base.proofs.name.laws.names_are_compressed.Goals as goal

pub returns : goal.returns
returns c = compressed
