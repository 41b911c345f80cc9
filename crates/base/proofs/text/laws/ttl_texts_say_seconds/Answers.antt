use Rattle.base.proofs.texts.TtlLawLemmas.{ttl_text}
use Rattle.base.proofs.text.laws.ttl_texts_say_seconds.Goals as goal

pub returns : goal.returns
returns c = ttl_text
