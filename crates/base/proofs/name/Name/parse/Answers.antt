use Rattle.base.proofs.texts.Giving.{gives_name}
use Rattle.base.proofs.name.Name.parse.Goals as goal

pub returns-clause-reads : goal.returns-clause-reads
returns-clause-reads c = gives_name c.parse_text.ensures.named c.parse_text.ensures.refused c.parse_text.ensures.err
