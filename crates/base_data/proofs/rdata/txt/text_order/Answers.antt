use Rattle.base_data.proofs.StringLemmas.{same_txt-is}
use Rattle.base_data.proofs.rdata.txt.text_order.Goals as goal

pub returns : goal.returns
returns c = record { equal = same_txt-is }
